-- One packet more, for the whole follower.
use Rattle.std.specs.Option.{option_or}
use Rattle.std.proofs.Common.{◌≡◌, ℕ, List, [], ◌∷◌, true, false, ◌&&◌, refl, sym, ap, subst, ◌∙◌, if◌then◌else◌, map, Option, Some, None}
use Rattle.std.specs.Prelude.{option_map, is_some}
use Rattle.psi_tables.specs.declared.network.NetworkFault.{NetworkFault}
use Rattle.psi_tables.specs.declared.network.NetworkFault.TheVariants.{CuePidUsed}
use Rattle.psi_tables.specs.ProgramMap.{ProgramMap}
use Rattle.psi_section.specs.Sections.{given}
use Rattle.unit_stream.specs.Times.{high}
use Rattle.unit_stream.specs.Faults.{unit_fault}
use Rattle.pes_time.specs.Line.{ring_of}
use Rattle.unit_stream.specs.declared.fault.UnitFault.{UnitFault}
use Rattle.unit_stream.specs.declared.fault.UnitFault.TheVariants.{Scrambled, HeaderSplit, TimeJump}
use Rattle.program_follower.specs.declared.purpose.Purpose.{Purpose}
use Rattle.program_follower.specs.declared.purpose.Listed.{Listed}
use Rattle.program_follower.specs.Standing.{sections_on, newest}
use Rattle.program_follower.specs.Program.{listed, since_pat, table_of, tables_on, tables, first_map, known_map, Program, program_in, program_of, behind_head, pids_of}
use Rattle.program_follower.specs.Faults.{if_bad, on_cue, cue_fault, pats_fault, maps_fault, as_network, network_fault}
use Rattle.program_follower.specs.Following.{Since, GoesTo, grown}
use Rattle.program_follower.proofs.StepLemmas.{known_grows, listed_stays}

-- ---- the first of the faults of a packet

module _ (c : Purpose) (p : List ℕ) (past : List (List ℕ)) where
  abbrev pats : Option NetworkFault
  pats = pats_fault c (listed c.program past) (given 0 p past)

  abbrev maps : Option NetworkFault
  maps = maps_fault c (listed c.program past) (known_map c.program past) (tables c.program p past)

  abbrev units : Option NetworkFault
  units = as_network (unit_fault (pids_of (program_of c.program past)) p (behind_head c.program past))

  no_cue_fault : c.writes_cues && on_cue c.cue_pid p ≡ false → cue_fault c p ≡ None
  no_cue_fault h = ap (λ b. if_bad b CuePidUsed) h

  pub fault_of_cue : c.writes_cues && on_cue c.cue_pid p ≡ true → network_fault c p past ≡ Some CuePidUsed
  fault_of_cue h = ap (λ b. option_or (if_bad b CuePidUsed) (option_or pats (option_or maps units))) h

  module _ (h : c.writes_cues && on_cue c.cue_pid p ≡ false) where
    behind_cue : network_fault c p past ≡ option_or pats (option_or maps units)
    behind_cue = ap (λ x. option_or x (option_or pats (option_or maps units))) (no_cue_fault h)

    pub fault_of_pats : (f : NetworkFault) → pats ≡ Some f → network_fault c p past ≡ Some f
    fault_of_pats f e = behind_cue ∙ ap (λ x. option_or x (option_or maps units)) e

    module _ (clean : pats ≡ None) where
      behind_pats : network_fault c p past ≡ option_or maps units
      behind_pats = behind_cue ∙ ap (λ x. option_or x (option_or maps units)) clean

      pub fault_of_maps : (f : NetworkFault) → maps ≡ Some f → network_fault c p past ≡ Some f
      fault_of_maps f e = behind_pats ∙ ap (λ x. option_or x units) e

      pub fault_of_units : maps ≡ None → network_fault c p past ≡ units
      fault_of_units sound = behind_pats ∙ ap (λ x. option_or x units) sound

-- ---- what is known, and the packets behind the head

stays_by : (o more : Option ProgramMap) → GoesTo (option_map program_in o) (option_map program_in (option_or o more))
stays_by None more r h = absurd (cc)
stays_by (Some m) more r h = h

pub program_stays : (wanted : Option ℕ) (p : List ℕ) (past : List (List ℕ)) → GoesTo (program_of wanted past) (program_of wanted (p ∷ past))
program_stays wanted p past r h = ap (option_map program_in) (known_grows wanted p past) ∙ stays_by (known_map wanted past) (first_map (tables wanted p past)) r h

grown_by : (o : Option ProgramMap) (p : List ℕ) (ps : List (List ℕ)) → grown (option_map program_in o) p ps ≡ (if is_some o then p ∷ ps else [])
grown_by None p ps = refl
grown_by (Some m) p ps = refl

pub grown_is : (wanted : Option ℕ) (p : List ℕ) (past : List (List ℕ)) → grown (program_of wanted past) p (behind_head wanted past) ≡ behind_head wanted (p ∷ past)
grown_is wanted p past = grown_by (known_map wanted past) p (behind_head wanted past)

pub streams_next : {S : Type 0} (reads : S → List ℕ → List (List ℕ) → Type 0) (wanted : Option ℕ) (p : List ℕ) (past : List (List ℕ)) (s : Option S) (k : Option Program) → k ≡ program_of wanted (p ∷ past)
    → Since reads s k (grown (program_of wanted past) p (behind_head wanted past)) → Since reads s (program_of wanted (p ∷ past)) (behind_head wanted (p ∷ past))
streams_next reads wanted p past s k e h =
    let P : Option Program → Type 0 = λ x. Since reads s x (behind_head wanted (p ∷ past)) in
    let Q : List (List ℕ) → Type 0 = λ ps. Since reads s k ps in
    subst P e (subst Q (grown_is wanted p past) h)

pub goes_to : (wanted : Option ℕ) (p : List ℕ) (past : List (List ℕ)) (k : Option Program) → k ≡ program_of wanted (p ∷ past) → GoesTo (program_of wanted past) k
goes_to wanted p past k e r h = e ∙ program_stays wanted p past r h

pub known_program : (o : Option ProgramMap) → is_some (option_map program_in o) ≡ is_some o
known_program None = refl
known_program (Some m) = refl

-- ---- no streams

pub no_high : (past : List (List ℕ)) → high [] past ≡ None
no_high [] = refl
no_high (p ∷ past) = no_high past

pub high_none : {S : Type 0} (reads : S → List ℕ → List (List ℕ) → Type 0) (s : Option S) (r : Option Program) (past : List (List ℕ)) → s ≡ None → Since reads s r past
    → None ≡ option_map ring_of (high (pids_of r) past)
high_none reads s None past e h = ap (option_map ring_of) (sym (no_high past))
high_none {S} reads s (Some r) past e h = absurd (let P : Option S → Type 0 = λ x. Since reads x (Some r) past in subst P e h)

-- ---- the tables that are shown

tables_by : (wanted : Option ℕ) (p : List ℕ) (past : List (List ℕ)) (l : Listed) (o : Option Listed) → listed wanted past ≡ o → listed wanted (p ∷ past) ≡ Some l
    → map (table_of l.program) (sections_on o p (since_pat wanted past)) ≡ tables_on o p (since_pat wanted past)
tables_by wanted p past l None e h = refl
tables_by wanted p past l (Some k) e h =
    let same : k ≡ l = (let a = listed_stays wanted p past k e in let b : Some k ≡ Some l = sym a ∙ h in cc) in
    ap (λ (x : Listed). map (table_of x.program) (given k.pid p (since_pat wanted past))) (sym same)

pub tables_shown : (wanted : Option ℕ) (p : List ℕ) (past : List (List ℕ)) (l : Listed) (ss : List (List ℕ)) → listed wanted (p ∷ past) ≡ Some l → ss ≡ newest wanted (p ∷ past)
    → map (table_of l.program) ss ≡ tables wanted p past
tables_shown wanted p past l ss h e = ap (map (table_of l.program)) e ∙ tables_by wanted p past l (listed wanted past) refl h

pub no_unit_fault : (o : Option UnitFault) → as_network o ≡ None → o ≡ None
no_unit_fault None h = refl
no_unit_fault (Some Scrambled) h = absurd (cc)
no_unit_fault (Some HeaderSplit) h = absurd (cc)
no_unit_fault (Some TimeJump) h = absurd (cc)
