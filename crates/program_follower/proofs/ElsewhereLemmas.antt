-- A packet that is on no PID of the tables, nor on that of the cues.
use Rattle.std.specs.Option.{option_or}
use Rattle.std.specs.Prelude.{option_map, ◌≢◌}
use Rattle.std.proofs.Common.{◌≡◌, ℕ, List, [], ◌∷◌, false, not, ◌&&◌, refl, sym, ap, subst, ◌∙◌, Option, Some, None}
use Rattle.std.proofs.lemmas.Bool.{ne_eqb}
use Rattle.std.proofs.Math.Bool.{and-false}
use Rattle.ts_packet.specs.Fields.{in_error, pid_of, on}
use Rattle.psi_section.proofs.RunLemmas.{given_off}
use Rattle.program_follower.specs.declared.purpose.Purpose.{Purpose}
use Rattle.program_follower.specs.declared.purpose.Listed.{Listed}
use Rattle.program_follower.specs.declared.map_reader.MapReader.{MapReader}
use Rattle.program_follower.specs.declared.table_reader.TableReader.{TableReader}
use Rattle.program_follower.specs.Program.{first_listed, listed, since_pat, tables_on, tables, first_map, known_map, program_in, program_of}
use Rattle.program_follower.specs.Faults.{on_cue, maps_fault, maps_fault_at, unit_fault_at, network_fault}
use Rattle.program_follower.specs.Standing.{GivesSince, MapsRead, TablesRead, or_zero}
use Rattle.program_follower.specs.Following.{on_map, IsElsewhere}
use Rattle.program_follower.proofs.OptionLemmas.{option_or-none}
use Rattle.program_follower.proofs.StepLemmas.{known_grows, tables_off}
use Rattle.program_follower.proofs.PatLemmas.{pats_off, pats_clean_off}
use Rattle.program_follower.proofs.MapsLemmas.{maps_off, maps_clean_off}
use Rattle.program_follower.proofs.FollowLemmas.{fault_of_units}

-- ---- which PIDs those are

-- a packet is on no PID but its own
pub off_other : (pid : ℕ) (p : List ℕ) → pid_of p ≢ pid → on pid p ≡ false
unfolding on
off_other pid p n = ap (λ b. not (in_error p) && b) (ne_eqb (pid_of p) pid n) ∙ and-false (not (in_error p))

pub off_cue : (o : Option ℕ) (p : List ℕ) → pid_of p ≢ or_zero o → on_cue o p ≡ false
off_cue None p n = refl
off_cue (Some pid) p n = off_other pid p n

pub off_map : (o : Option Listed) (p : List ℕ) → pid_of p ≢ or_zero (option_map (λ (l : Listed). l.pid) o) → on_map o p ≡ false
off_map None p n = refl
off_map (Some l) p n = off_other l.pid p n

pub elsewhere : (r : TableReader) (c : Purpose) (p : List ℕ) (past : List (List ℕ)) → TablesRead r c past → pid_of p ≢ 0
    → pid_of p ≢ r.map_pid → pid_of p ≢ r.cue_pid → IsElsewhere c p past
elsewhere r c p past h pat map cue = record {
  pat = off_other 0 p pat;
  cue = off_cue c.cue_pid p (λ e. cue (e ∙ sym h.cue_pid));
  map = off_map (listed c.program past) p (λ e. map (e ∙ sym h.map_pid));
}

-- ---- what it changes

module _ (c : Purpose) (p : List ℕ) (past : List (List ℕ)) (e : IsElsewhere c p past) where
  pub listed_same : listed c.program (p ∷ past) ≡ listed c.program past
  listed_same = ap (λ ss. option_or (listed c.program past) (first_listed c.program ss)) (given_off 0 p past e.pat) ∙ option_or-none (listed c.program past)

  no_tables_by : (o : Option Listed) → o ≡ listed c.program past → on_map o p ≡ false → tables c.program p past ≡ []
  no_tables_by None at off = ap (λ x. tables_on x p (since_pat c.program past)) (sym at)
  no_tables_by (Some l) at off = tables_off c.program p past l (sym at) off

  pub program_same : program_of c.program (p ∷ past) ≡ program_of c.program past
  program_same = ap (option_map program_in)
      (known_grows c.program p past ∙ ap (λ ts. option_or (known_map c.program past) (first_map ts)) (no_tables_by (listed c.program past) refl e.map) ∙ option_or-none (known_map c.program past))

  maps_by : (r : MapReader) (o : Option Listed) → o ≡ listed c.program past → on_map o p ≡ false → MapsRead r c.program past → MapsRead r c.program (p ∷ past)
  maps_by r (Some l) at off h = maps_off c r l p past at h off
  maps_by r None at off h =
      let Gives : Option Listed → Type 0 = λ x. GivesSince r.assembler x [] h.todo in
      let before : Option Listed → Type 0 = λ x. GivesSince r.assembler x (since_pat c.program past) h.todo in
      let here : List (List ℕ) → Type 0 = λ ps. GivesSince r.assembler (listed c.program (p ∷ past)) ps h.todo in
      let since : since_pat c.program (p ∷ past) ≡ [] = (let n : listed c.program past ≡ None = sym at in simp n) in
      record {
        todo = h.todo;
        assembler = subst here (sym since) (subst Gives (at ∙ sym listed_same) (subst before (sym at) h.assembler));
        program = h.program ∙ sym program_same;
      }

  pub maps_elsewhere : (r : MapReader) → MapsRead r c.program past → MapsRead r c.program (p ∷ past)
  maps_elsewhere r h = maps_by r (listed c.program past) refl e.map h

  -- nothing changes
  pub tables_elsewhere : (r : TableReader) → TablesRead r c past → TablesRead r c (p ∷ past)
  tables_elsewhere r h = record {
    purpose = h.purpose;
    pats = pats_off r.pats c.program p past e.pat h.pats;
    maps = maps_elsewhere r.maps h.maps;
    cue_pid = h.cue_pid;
    map_pid = h.map_pid ∙ ap (λ o. or_zero (option_map (λ (l : Listed). l.pid) o)) (sym listed_same);
  }

  clean_by : (o : Option Listed) → o ≡ listed c.program past → on_map o p ≡ false → (r : MapReader) → MapsRead r c.program past → maps_fault_at c p past ≡ None
  clean_by (Some l) at off r h = maps_clean_off c r l p past at h off
  clean_by None at off r h = ap (λ x. maps_fault c x (known_map c.program past) (tables c.program p past)) (sym at)

  pub fault_elsewhere : (r : MapReader) → MapsRead r c.program past → network_fault c p past ≡ unit_fault_at c p past
  fault_elsewhere r h =
      fault_of_units c p past (ap (λ b. c.writes_cues && b) e.cue ∙ and-false c.writes_cues) (pats_clean_off c p past e.pat)
      (clean_by (listed c.program past) refl e.map r h)
