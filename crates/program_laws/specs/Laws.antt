-- What holds of a program.
use Rattle.std.specs.Option.{option_or}
use Rattle.std.specs.Prelude.{◌≡◌, ℕ, List, ◌∷◌, Option, Some}
use Rattle.program_follower.specs.Program.{since_pat, tables, known_map, Program, program_of, behind_head, first_map, pmt_pid_of}

-- one packet more: the first map stays, else it is the first that the packet finishes
abbrev pub TablesGrow : Type 0
TablesGrow = (wanted : Option ℕ) (p : List ℕ) (past : List (List ℕ)) → known_map wanted (p ∷ past) ≡ option_or (known_map wanted past) (first_map (tables wanted p past))

-- what is known stays
pub record StaysAt (wanted : Option ℕ) (p : List ℕ) (past : List (List ℕ)) : Type 0 where
  pub pid : (n : ℕ) → pmt_pid_of wanted past ≡ Some n → pmt_pid_of wanted (p ∷ past) ≡ Some n
  pub program : (r : Program) → program_of wanted past ≡ Some r → program_of wanted (p ∷ past) ≡ Some r
  pub since : (n : ℕ) → pmt_pid_of wanted past ≡ Some n → since_pat wanted (p ∷ past) ≡ p ∷ since_pat wanted past
  pub behind : (r : Program) → program_of wanted past ≡ Some r → behind_head wanted (p ∷ past) ≡ p ∷ behind_head wanted past

abbrev pub Stays : Type 0
Stays = (wanted : Option ℕ) (p : List ℕ) (past : List (List ℕ)) → StaysAt wanted p past
