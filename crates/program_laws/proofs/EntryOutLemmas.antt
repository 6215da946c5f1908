-- Maps with an entry for cues.
use Rattle.std.proofs.Common.{◌≡◌, ℕ, [], ◌∷◌, ◌++◌, Bool, true, false, refl, sym, ap, ◌∙◌, Some, None, Result, Ok, Err, map, if◌then◌else◌}
use Rattle.std.proofs.lemmas.Bool.{ltb-false}
use Rattle.std.proofs.lemmas.List.{append-nil, map-append}
use Rattle.std.proofs.lemmas.List.Elements.{filter-append}
use Rattle.psi_section.specs.Crc.{crc}
use Rattle.psi_tables.specs.declared.fault.TableFault.{TableFault}
use Rattle.psi_tables.specs.declared.stream.Stream.{Stream}
use Rattle.psi_tables.specs.Streams.{stream_of, switched_of, is_switched}
use Rattle.psi_tables.specs.ProgramMap.{ProgramMap, pmt_section, pmt, streams_of}
use Rattle.psi_tables.specs.Cue.{ReadsAs, cue_entry, with_cue_entry}
use Rattle.psi_tables.proofs.ReadBackLemmas.{map_reads, map_checks, maps_read_back}
use Rattle.psi_tables.proofs.UndoLemmas.{undone}
use Rattle.program_follower.specs.Program.{is_map_of, map_read, program_in}
use Rattle.program_laws.specs.Writing.{IsReadable}
use Rattle.program_laws.specs.CueEntry.{EntryGoesOut}

-- ---- what was read

pub if_some : (b : Bool) (x m : ProgramMap) → (if b then Some x else None) ≡ Some m → (b ≡ true) × (x ≡ m)
if_some true x m h = (refl, cc)
if_some false x m h = absurd (cc)

pub read_is : (program : ℕ) (r : Result ProgramMap TableFault) (m : ProgramMap) → map_read program r ≡ Some m → (r ≡ Ok m) × (is_map_of program m ≡ true)
read_is program (Err e) m h = absurd (cc)
read_is program (Ok x) m h = let k = if_some (is_map_of program x) x m h in (ap (λ y. let r : Result ProgramMap TableFault = Ok y in r) k.1, ap (is_map_of program) (sym k.1) ∙ k.0)

-- ---- the entry

-- what fits is read back, and can be given
goes : (program : ℕ) (m : ProgramMap) → ReadsAs m (pmt_section m) → is_map_of program m ≡ true → IsReadable program m
goes program m back of = record { reads = ap (map_read program) back.reads ∙ ap (λ b. if b then Some m else None) of; given = back.can }

with_of : (program pid : ℕ) (m : ProgramMap) → is_map_of program (with_cue_entry pid m) ≡ is_map_of program m
unfolding with_cue_entry
with_of program pid m = refl

pub with_same : (pid : ℕ) (m : ProgramMap) → program_in (with_cue_entry pid m) ≡ program_in m
unfolding with_cue_entry
with_same pid m =
    let e : switched_of (map stream_of (m.entries ++ cue_entry pid ∷ [])) ≡ switched_of (streams_of m) =
    ap switched_of (map-append stream_of m.entries (cue_entry pid ∷ []))
    ∙ filter-append (λ (s : Stream). is_switched s.kind) (streams_of m) (stream_of (cue_entry pid) ∷ [])
    ∙ append-nil (switched_of (streams_of m)) in
    rw e refl

pub entry_goes_out : EntryGoesOut
entry_goes_out program pid s m h t =
    let r = read_is program (pmt s) m t.reads in
    let read = map_reads s m t.bytes r.0 in
    let right : crc (pmt_section m) ≡ 0 = ap crc read.1 ∙ map_checks s m t.given r.0 in
    let back = maps_read_back m read.0 in
    record {
      out = goes program (with_cue_entry pid m) (back.added pid h (ltb-false 1021 _ t.room)) (with_of program pid m ∙ r.1);
      same = with_same pid m;
      undone = undone m pid h read.0 right t.free;
      back = goes program m (back.same right) r.1;
      spelled = read.1;
    }
