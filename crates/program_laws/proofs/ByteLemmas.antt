-- Tables of packets of bytes are bytes.
use Rattle.std.proofs.Common.{◌≡◌, ℕ, List, [], ◌∷◌, refl, if◌then◌else◌, Option, Some, None, map}
use Rattle.std.specs.Prelude.{is_some}
use Rattle.std.specs.List.{AllByRecursion}
use Rattle.std.proofs.lemmas.List.Elements.{All-from_recursion, recursion_from_All}
use Rattle.psi_section.specs.Sections.{given}
use Rattle.wire_fields.specs.Numbers.{AreBytes}
use Rattle.psi_section.proofs.ByteLemmas.{given_bytes}
use Rattle.psi_section.proofs.GivenLemmas.{each-append}
use Rattle.program_follower.specs.declared.purpose.Listed.{Listed}
use Rattle.program_follower.specs.Program.{listed, since_pat, Table, table_of, tables, all_tables}
use Rattle.program_laws.specs.Writing.{Along}

-- all packets are bytes
abbrev pub AllBytes : List (List ℕ) → Type 0
AllBytes past = Along (λ p past. AreBytes p) past

past_bytes : (past : List (List ℕ)) → AllBytes past → AllByRecursion AreBytes past
past_bytes [] h = tt
past_bytes (p ∷ past) h = (h.0, past_bytes past h.1)

each_bytes : (pid : ℕ) (p : List ℕ) (past : List (List ℕ)) → AreBytes p → AllBytes past → AllByRecursion AreBytes (given pid p past)
each_bytes pid p past h k = recursion_from_All AreBytes (given pid p past) (given_bytes pid p past h (All-from_recursion AreBytes past (past_bytes past k)))

since_bytes : (wanted : Option ℕ) (past : List (List ℕ)) → AllBytes past → AllBytes (since_pat wanted past)
since_bytes wanted [] h = tt
since_bytes wanted (p ∷ past) h = by_known (listed wanted past) (since_bytes wanted past h.1) where
  by_known : (o : Option Listed) → AllBytes (since_pat wanted past) → AllBytes (if is_some o then p ∷ since_pat wanted past else [])
  by_known None k = tt
  by_known (Some l) k = (h.0, k)

tables_each : (program : ℕ) (ss : List (List ℕ)) → AllByRecursion AreBytes ss → AllByRecursion (λ (t : Table). AreBytes t.section) (map (table_of program) ss)
tables_each program [] h = tt
tables_each program (s ∷ ss) h = (h.0, tables_each program ss h.1)

tables_bytes : (wanted : Option ℕ) (p : List ℕ) (past : List (List ℕ)) (o : Option Listed) → listed wanted past ≡ o → AreBytes p → AllBytes past → AllByRecursion (λ (t : Table). AreBytes t.section) (tables wanted p past)
tables_bytes wanted p past None e h k = simp e tt
tables_bytes wanted p past (Some l) e h k = simp e (tables_each l.program (given l.pid p (since_pat wanted past)) (each_bytes l.pid p (since_pat wanted past) h (since_bytes wanted past k)))

pub all_bytes : (wanted : Option ℕ) (past : List (List ℕ)) → AllBytes past → AllByRecursion (λ (t : Table). AreBytes t.section) (all_tables wanted past)
all_bytes wanted [] h = tt
all_bytes wanted (p ∷ past) h =
    each-append (λ (t : Table). AreBytes t.section) (all_tables wanted past) (tables wanted p past) (all_bytes wanted past h.1) (tables_bytes wanted p past (listed wanted past) refl h.0 h.1)
