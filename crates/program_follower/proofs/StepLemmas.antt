-- One packet more, behind the PAT.
use Rattle.std.specs.Option.{option_or}
use Rattle.std.proofs.Common.{◌≡◌, ℕ, List, [], ◌∷◌, ◌++◌, map, false, refl, sym, ap, ◌∙◌, Option, Some}
use Rattle.std.proofs.lemmas.List.{append-nil}
use Rattle.ts_packet.specs.Fields.{on}
use Rattle.psi_section.specs.Sections.{given}
use Rattle.psi_section.proofs.RunLemmas.{given_off}
use Rattle.program_follower.specs.declared.purpose.Listed.{Listed}
use Rattle.program_follower.specs.Program.{first_listed, listed, since_pat, Table, table_of, tables, all_tables, first_map, known_map}
use Rattle.program_follower.proofs.OptionLemmas.{option_or-assoc}

pub first_map-append : (ts us : List Table) → first_map (ts ++ us) ≡ option_or (first_map ts) (first_map us)
first_map-append [] us = refl
first_map-append (t ∷ ts) us = ap (option_or t.program_map) (first_map-append ts us) ∙ sym (option_or-assoc t.program_map (first_map ts) (first_map us))

pub known_grows : (wanted : Option ℕ) (p : List ℕ) (past : List (List ℕ)) → known_map wanted (p ∷ past) ≡ option_or (known_map wanted past) (first_map (tables wanted p past))
known_grows wanted p past = first_map-append (all_tables wanted past) (tables wanted p past)

module _ (wanted : Option ℕ) (p : List ℕ) (past : List (List ℕ)) (l : Listed) (h : listed wanted past ≡ Some l) where
  pub listed_stays : listed wanted (p ∷ past) ≡ Some l
  listed_stays = ap (λ x. option_or x (first_listed wanted (given 0 p past))) h

  pub since_stays : since_pat wanted (p ∷ past) ≡ p ∷ since_pat wanted past
  since_stays = simp h

  pub tables_at : tables wanted p past ≡ map (table_of l.program) (given l.pid p (since_pat wanted past))
  tables_at = simp h

  pub tables_off : on l.pid p ≡ false → tables wanted p past ≡ []
  tables_off o = tables_at ∙ ap (map (table_of l.program)) (given_off l.pid p (since_pat wanted past) o)

  pub known_off : on l.pid p ≡ false → known_map wanted (p ∷ past) ≡ known_map wanted past
  known_off o = ap (λ ts. first_map (all_tables wanted past ++ ts)) (tables_off o) ∙ ap first_map (append-nil (all_tables wanted past))
