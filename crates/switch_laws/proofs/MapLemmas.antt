-- The program's maps go out without the entry for the cues.
use Rattle.std.proofs.Common.{◌≡◌, ℕ, List, [], ◌∷◌, refl, ap, ◌∙◌, Option, None, Some, if◌then◌else◌}
use Rattle.std.specs.List.{AllByRecursion}
use Rattle.wire_fields.specs.Numbers.{AreBytes}
use Rattle.psi_tables.specs.ProgramMap.{ProgramMap, pmt}
use Rattle.psi_tables.specs.Cue.{without_cue_entry}
use Rattle.psi_tables.proofs.ReadBackLemmas.{map_reads, maps_read_back}
use Rattle.program_follower.specs.Program.{Table, all_tables, is_map_of, map_read}
use Rattle.program_laws.specs.Writing.{ChangedGoesOut, MapGoesOut}
use Rattle.program_laws.proofs.ByteLemmas.{all_bytes}
use Rattle.program_laws.proofs.CuedLemmas.{IsRead, all_read}
use Rattle.program_laws.proofs.EntryOutLemmas.{read_is}
use Rattle.switch_laws.specs.Sections.{BytesGoOut}

without-of : (program pid : ℕ) (m : ProgramMap) → is_map_of program (without_cue_entry pid m) ≡ is_map_of program m
unfolding without_cue_entry
without-of program pid m = refl

one-goes : (program pid : ℕ) (s : List ℕ) (o : Option ProgramMap) → map_read program (pmt s) ≡ o → AreBytes s → MapGoesOut (without_cue_entry pid) program o
one-goes program pid s None r b = tt
one-goes program pid s (Some m) r b =
    let is = read_is program (pmt s) m r in
    let back = (maps_read_back m (map_reads s m b is.0).0).stripped pid in
    record {
      reads = ap (map_read program) back.reads ∙ ap (λ b. if b then Some (without_cue_entry pid m) else None) (without-of program pid m ∙ is.1);
      given = back.can;
    }

tables-go : (program pid : ℕ) (ts : List Table) → AllByRecursion (IsRead program) ts → AllByRecursion (λ (t : Table). AreBytes t.section) ts → AllByRecursion (ChangedGoesOut (without_cue_entry pid) program) ts
tables-go program pid [] h b = tt
tables-go program pid (t ∷ ts) h b = (one-goes program pid t.section t.program_map h.0.0 b.0, tables-go program pid ts h.1 b.1)

pub bytes_go_out : BytesGoOut
bytes_go_out k past bytes = λ l h.
    tables-go l.program k.cue_pid (all_tables (Some k.program) past) (all_read (Some k.program) past l h) (all_bytes (Some k.program) past bytes)
