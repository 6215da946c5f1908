-- The sections on the PID of the map, one after another.
use Rattle.std.specs.Option.{option_or}
use Rattle.std.proofs.Common.{◌≡◌, ℕ, List, [], ◌∷◌, Bool, true, false, Option, Some, None, refl, sym, ap, subst, ◌∙◌}
use Rattle.std.specs.Prelude.{option_map}
use Rattle.ts_packet.specs.Fields.{on}
use Rattle.psi_section.specs.declared.assembler.Assembler.{Assembler}
use Rattle.psi_section.specs.Sections.{given}
use Rattle.psi_section.specs.Assembling.{StillGives, left}
use Rattle.psi_section.proofs.AssemblerLemmas.{gives_off}
use Rattle.psi_section.proofs.RunLemmas.{given_off}
use Rattle.psi_tables.specs.declared.network.NetworkFault.{NetworkFault}
use Rattle.psi_tables.specs.ProgramMap.{ProgramMap, pmt}
use Rattle.program_follower.specs.declared.purpose.Purpose.{Purpose}
use Rattle.program_follower.specs.declared.purpose.Listed.{Listed}
use Rattle.program_follower.specs.declared.known.KnownProgram.{KnownProgram}
use Rattle.program_follower.specs.declared.map_reader.MapReader.{MapReader}
use Rattle.program_follower.specs.declared.faultless_map.FaultlessMap.{FaultlessMap}
use Rattle.program_follower.specs.Program.{listed, since_pat, tables_in, tables, known_map, map_read, first_map, Program, program_in}
use Rattle.program_follower.specs.Faults.{table_fault, tables_fault, maps_fault}
use Rattle.program_follower.specs.Known.{known_seen, IsFaultless}
use Rattle.program_follower.specs.Standing.{GivesSince, sections_on, newest, MapsRead, MapsShow}
use Rattle.program_follower.specs.Following.{on_map}
use Rattle.program_follower.specs.Judging.{section_fault}
use Rattle.program_follower.proofs.OptionLemmas.{option_or-assoc, option_or-none}
use Rattle.program_follower.proofs.StepLemmas.{known_grows, listed_stays, since_stays, tables_at, tables_off, known_off}

-- some are judged, and the rest is to come
pub record JudgingMaps (c : Purpose) (l : Listed) (before : Option ProgramMap) (all : List (List ℕ)) (known : Option Program) (rest : List (List ℕ)) : Type 0 where
  pub first : Option ProgramMap
  pub known_is : known ≡ option_map program_in first
  pub fault : tables_fault c l.pid before (tables_in l all) ≡ tables_fault c l.pid first (tables_in l rest)
  pub first_so : option_or before (first_map (tables_in l all)) ≡ option_or first (first_map (tables_in l rest))

pub maps_begin : (c : Purpose) (l : Listed) (before : Option ProgramMap) (all : List (List ℕ)) (known : Option Program) → known ≡ option_map program_in before → JudgingMaps c l before all known all
maps_begin c l before all known h = record { first = before; known_is = h; fault = refl; first_so = refl }

-- the fault of a section is that of its table
pub section_is_table : (c : Purpose) (pid : ℕ) (first o : Option ProgramMap) → section_fault c pid (option_map program_in first) o ≡ table_fault c pid first o
section_is_table c pid first None = refl
section_is_table c pid first (Some m) = refl

or_program : (x y : Option ProgramMap) → option_or (option_map program_in x) (option_map program_in y) ≡ option_map program_in (option_or x y)
or_program None y = refl
or_program (Some m) y = refl

module _ (c : Purpose) (l : Listed) (before : Option ProgramMap) (all : List (List ℕ)) (known : Option Program) (rest : List (List ℕ)) (j : JudgingMaps c l before all known rest) where
  fault_here : (s : List ℕ) (f : Option NetworkFault) → section_fault c l.pid known (map_read l.program (pmt s)) ≡ f → table_fault c l.pid j.first (map_read l.program (pmt s)) ≡ f
  fault_here s f h = sym (ap (λ k. section_fault c l.pid k (map_read l.program (pmt s))) j.known_is ∙ section_is_table c l.pid j.first (map_read l.program (pmt s))) ∙ h

  pub maps_more : (s : List ℕ) (rest' : List (List ℕ)) (next : Option Program) → rest ≡ s ∷ rest' → section_fault c l.pid known (map_read l.program (pmt s)) ≡ None
      → next ≡ option_or known (option_map program_in (map_read l.program (pmt s))) → JudgingMaps c l before all next rest'
  maps_more s rest' next e h n =
      let m = map_read l.program (pmt s) in
      record {
        first = option_or j.first m;
        known_is = n ∙ ap (λ k. option_or k (option_map program_in m)) j.known_is ∙ or_program j.first m;
        fault = j.fault ∙ ap (λ ss. tables_fault c l.pid j.first (tables_in l ss)) e ∙ ap (λ x. option_or x (tables_fault c l.pid (option_or j.first m) (tables_in l rest'))) (fault_here s None h);
        first_so = j.first_so ∙ ap (λ ss. option_or j.first (first_map (tables_in l ss))) e ∙ sym (option_or-assoc j.first m (first_map (tables_in l rest')));
      }

  pub maps_done : rest ≡ [] → (tables_fault c l.pid before (tables_in l all) ≡ None) × (known ≡ option_map program_in (option_or before (first_map (tables_in l all))))
  maps_done e = (
    j.fault ∙ ap (λ ss. tables_fault c l.pid j.first (tables_in l ss)) e,
    j.known_is ∙ ap (option_map program_in) (sym (j.first_so ∙ ap (λ ss. option_or j.first (first_map (tables_in l ss))) e ∙ option_or-none j.first)),
  )

  pub maps_fail : (s : List ℕ) (rest' : List (List ℕ)) (f : NetworkFault) → rest ≡ s ∷ rest' → section_fault c l.pid known (map_read l.program (pmt s)) ≡ Some f → tables_fault c l.pid before (tables_in l all) ≡ Some f
  maps_fail s rest' f e h =
      let m = map_read l.program (pmt s) in
      j.fault ∙ ap (λ ss. tables_fault c l.pid j.first (tables_in l ss)) e ∙ ap (λ x. option_or x (tables_fault c l.pid (option_or j.first m) (tables_in l rest'))) (fault_here s (Some f) h)

-- ---- what is shown

-- it is not what has been read
pub maps_still : (r : MapReader) (b : Bool) (f : IsFaultless r.faultless (known_seen r.known)) (wanted : Option ℕ) (past : List (List ℕ)) → MapsRead r wanted past
    → MapsRead (record { assembler = r.assembler; known = r.known; faultless = r.faultless; is_on_map = b; judged = f }) wanted past
maps_still r b f wanted past h = record { todo = h.todo; assembler = h.assembler; program = h.program }

-- of a packet that is not on the PID of the map nothing is
newest_by : (wanted : Option ℕ) (p : List ℕ) (past : List (List ℕ)) (o : Option Listed) → on_map o p ≡ false → sections_on o p (since_pat wanted past) ≡ []
newest_by wanted p past None off = refl
newest_by wanted p past (Some l) off = given_off l.pid p (since_pat wanted past) off

pub none_shown : (r : MapReader) (f : IsFaultless r.faultless (known_seen r.known)) (wanted : Option ℕ) (p : List ℕ) (past : List (List ℕ)) → on_map (listed wanted past) p ≡ false
    → MapsShow (record { assembler = r.assembler; known = r.known; faultless = r.faultless; is_on_map = false; judged = f }) wanted (p ∷ past)
none_shown r f wanted p past off = record { newest_is = sym (newest_by wanted p past (listed wanted past) off) }

-- ---- one packet more

module _ (c : Purpose) (r : MapReader) (l : Listed) (p : List ℕ) (past : List (List ℕ)) (at : Some l ≡ listed c.program past) (h : MapsRead r c.program past) where
  abbrev since : List (List ℕ)
  since = since_pat c.program past

  pub gives_at : StillGives r.assembler l.pid since h.todo
  gives_at = let P : Option Listed → Type 0 = λ x. GivesSince r.assembler x since h.todo in subst P (sym at) h.assembler

  gives_next : (a : Assembler) (todo : List (List ℕ)) → StillGives a l.pid (p ∷ since) todo → GivesSince a (listed c.program (p ∷ past)) (since_pat c.program (p ∷ past)) todo
  gives_next a todo g =
      let P : List (List ℕ) → Type 0 = λ ps. StillGives a l.pid ps todo in
      let Q : Option Listed → Type 0 = λ x. GivesSince a x (since_pat c.program (p ∷ past)) todo in
      subst Q (sym (listed_stays c.program p past l (sym at))) (subst P (sym (since_stays c.program p past l (sym at))) g)

  newest_at : newest c.program (p ∷ past) ≡ given l.pid p since
  newest_at = ap (λ x. sections_on x p since) (sym at)

  pub maps_off : on l.pid p ≡ false → MapsRead r c.program (p ∷ past)
  maps_off o = record {
    todo = h.todo;
    assembler = gives_next r.assembler h.todo (gives_off r.assembler l.pid p since h.todo o gives_at);
    program = h.program ∙ ap (option_map program_in) (sym (known_off c.program p past l (sym at) o));
  }

  pub maps_clean_off : on l.pid p ≡ false → maps_fault c (listed c.program past) (known_map c.program past) (tables c.program p past) ≡ None
  maps_clean_off o =
      ap (maps_fault c (listed c.program past) (known_map c.program past)) (tables_off c.program p past l (sym at) o)
      ∙ ap (λ x. maps_fault c x (known_map c.program past) []) (sym at)

  module _ (a : Assembler) (g : StillGives a l.pid (p ∷ since) (given l.pid p since)) (ss : List (List ℕ)) (ss_is : ss ≡ left a) where
    tables_are : tables_in l ss ≡ tables c.program p past
    tables_are = ap (tables_in l) (ss_is ∙ g.todo_left) ∙ sym (tables_at c.program p past l (sym at))

    pub maps_on : (k : Option KnownProgram) (m : FaultlessMap) (f : IsFaultless m (known_seen k)) → known_seen k ≡ option_map program_in (option_or (known_map c.program past) (first_map (tables_in l ss)))
        → MapsRead (record { assembler = a; known = k; faultless = m; is_on_map = true; judged = f }) c.program (p ∷ past)
    maps_on k m f e = record {
      todo = given l.pid p since;
      assembler = gives_next a (given l.pid p since) g;
      program = e ∙ ap (λ ts. option_map program_in (option_or (known_map c.program past) (first_map ts))) tables_are ∙ ap (option_map program_in) (sym (known_grows c.program p past));
    }

    pub maps_shown : (k : Option KnownProgram) (m : FaultlessMap) (f : IsFaultless m (known_seen k))
        → MapsShow (record { assembler = a; known = k; faultless = m; is_on_map = true; judged = f }) c.program (p ∷ past)
    maps_shown k m f = record { newest_is = g.todo_left ∙ sym newest_at }

    pub maps_fault_on : (o : Option NetworkFault) → tables_fault c l.pid (known_map c.program past) (tables_in l ss) ≡ o
        → maps_fault c (listed c.program past) (known_map c.program past) (tables c.program p past) ≡ o
    maps_fault_on o e =
        ap (λ x. maps_fault c x (known_map c.program past) (tables c.program p past)) (sym at)
        ∙ ap (tables_fault c l.pid (known_map c.program past)) (sym tables_are) ∙ e
