-- The maps of a stream, finished by packets on the PID of the map between those of the cues.
use Rattle.std.specs.Option.{option_or}
use Rattle.std.proofs.Common.{◌≡◌, ℕ, ◌<◌, ◌⊎◌, inl, inr, List, [], ◌∷◌, ◌++◌, refl, sym, ap, ◌∙◌, Option, Some, None, map}
use Rattle.std.specs.Prelude.{option_map}
use Rattle.std.specs.List.{AllByRecursion}
use Rattle.std.proofs.lemmas.List.{map-append}
use Rattle.ts_packet.specs.Runs.{onto}
use Rattle.psi_section.specs.Sections.{given, sections_after}
use Rattle.psi_tables.specs.ProgramMap.{ProgramMap}
use Rattle.psi_tables.specs.Cue.{with_cue_entry}
use Rattle.program_follower.specs.declared.purpose.Purpose.{Purpose}
use Rattle.program_follower.specs.declared.purpose.Listed.{Listed}
use Rattle.program_follower.specs.Program.{listed, since_pat, Table, table_of, tables, first_map, known_map}
use Rattle.program_follower.specs.Faults.{table_fault, tables_fault, first_fault}
use Rattle.program_follower.proofs.OptionLemmas.{option_or-none, option_or-assoc, none_both}
use Rattle.program_follower.proofs.StepLemmas.{listed_stays, since_stays, tables_at, known_grows}
use Rattle.program_laws.specs.Writing.{table_out}
use Rattle.program_laws.specs.Cued.{On}
use Rattle.program_laws.proofs.SplicedLemmas.{entry_is_no_fault}
use Rattle.program_laws.proofs.WritingLemmas.{option_or-map}
use Rattle.cued_laws.proofs.PacketLemmas.{cue_sound, map_sound_packet}
use Rattle.program_follower.specs.Purposes.{cues_written_on, cues_read_on}

tables_both : (c : Purpose) (pid : ℕ) (first : Option ProgramMap) (ts us : List Table) → tables_fault c pid first (ts ++ us) ≡ option_or (tables_fault c pid first ts) (tables_fault c pid (option_or first (first_map ts)) us)
tables_both c pid first [] us = ap (λ o. tables_fault c pid o us) (sym (option_or-none first))
tables_both c pid first (t ∷ ts) us =
    let x = table_fault c pid first t.program_map in
    let later = option_or first t.program_map in
    ap (option_or x) (tables_both c pid later ts us)
    ∙ ap (λ o. option_or x (option_or (tables_fault c pid later ts) (tables_fault c pid o us))) (option_or-assoc first t.program_map (first_map ts))
    ∙ sym (option_or-assoc x (tables_fault c pid later ts) (tables_fault c pid (option_or first (option_or t.program_map (first_map ts))) us))

module _ (wanted : Option ℕ) (cue : ℕ) (not_pat : cue ≡ 0 → ⊥) where
  -- ---- with the entry

  module _ (pid : ℕ) (below : cue < 8192) (other : cue ≡ pid → ⊥) where
    entry_sound : (first o : Option ProgramMap) → table_fault (cues_written_on wanted cue) pid first o ≡ None → table_fault (cues_read_on wanted cue) pid (option_map (with_cue_entry cue) first) (option_map (with_cue_entry cue) o) ≡ None
    entry_sound first None h = refl
    entry_sound first (Some m) h = entry_is_no_fault wanted cue pid first m below not_pat other h

    pub entries_sound : (first : Option ProgramMap) (ts : List Table) → tables_fault (cues_written_on wanted cue) pid first ts ≡ None
        → tables_fault (cues_read_on wanted cue) pid (option_map (with_cue_entry cue) first) (map (table_out (with_cue_entry cue)) ts) ≡ None
    entries_sound first [] h = refl
    entries_sound first (t ∷ ts) h =
        let r = none_both (table_fault (cues_written_on wanted cue) pid first t.program_map) (tables_fault (cues_written_on wanted cue) pid (option_or first t.program_map) ts) h in
        let more = entries_sound (option_or first t.program_map) ts r.1 in
        let here = entry_sound first t.program_map r.0 in
        ap (λ o. option_or o (tables_fault (cues_read_on wanted cue) pid (option_or (option_map (with_cue_entry cue) first) (option_map (with_cue_entry cue) t.program_map)) (map (table_out (with_cue_entry cue)) ts))) here
        ∙ ap (λ o. tables_fault (cues_read_on wanted cue) pid o (map (table_out (with_cue_entry cue)) ts)) (sym (option_or-map (with_cue_entry cue) first t.program_map))
        ∙ more

  -- ---- packets on both PIDs

  abbrev pub IsOfBoth : Listed → List ℕ → Type 0
  IsOfBoth l q = On cue q ⊎ On l.pid q

  pub block_sound : (l : Listed) (qs out : List (List ℕ)) → listed wanted out ≡ Some l → first_fault (cues_read_on wanted cue) out ≡ None → AllByRecursion (IsOfBoth l) qs
      → tables_fault (cues_read_on wanted cue) l.pid (known_map wanted out) (map (table_of l.program) (sections_after (since_pat wanted out) l.pid qs)) ≡ None
      → first_fault (cues_read_on wanted cue) (onto out qs) ≡ None
  block_sound l [] out known ok all none = ok
  block_sound l (q ∷ qs) out known ok all none =
      let since = since_pat wanted out in
      let here = map (table_of l.program) (given l.pid q since) in
      let later = map (table_of l.program) (sections_after (q ∷ since) l.pid qs) in
      let split = ap (tables_fault (cues_read_on wanted cue) l.pid (known_map wanted out)) (sym (map-append (table_of l.program) (given l.pid q since) (sections_after (q ∷ since) l.pid qs))) ∙ none in
      let r = none_both (tables_fault (cues_read_on wanted cue) l.pid (known_map wanted out) here) (tables_fault (cues_read_on wanted cue) l.pid (option_or (known_map wanted out) (first_map here)) later)
      (sym (tables_both (cues_read_on wanted cue) l.pid (known_map wanted out) here later) ∙ split) in
      let at = tables_at wanted q out l known in
      let mine : tables_fault (cues_read_on wanted cue) l.pid (known_map wanted out) (tables wanted q out) ≡ None = ap (tables_fault (cues_read_on wanted cue) l.pid (known_map wanted out)) at ∙ r.0 in
      let grows : known_map wanted (q ∷ out) ≡ option_or (known_map wanted out) (first_map here) = known_grows wanted q out ∙ ap (λ ts. option_or (known_map wanted out) (first_map ts)) at in
      block_sound l qs (q ∷ out) (listed_stays wanted q out l known) (one all.0 mine) all.1
      (ap (λ o. tables_fault (cues_read_on wanted cue) l.pid o (map (table_of l.program) (sections_after (since_pat wanted (q ∷ out)) l.pid qs))) grows
      ∙ ap (λ past. tables_fault (cues_read_on wanted cue) l.pid (option_or (known_map wanted out) (first_map here)) (map (table_of l.program) (sections_after past l.pid qs))) (since_stays wanted q out l known)
      ∙ r.1)
    where
      one : IsOfBoth l q → tables_fault (cues_read_on wanted cue) l.pid (known_map wanted out) (tables wanted q out) ≡ None → first_fault (cues_read_on wanted cue) (q ∷ out) ≡ None
      one (inl y) mine = cue_sound wanted cue not_pat out ok q y
      one (inr y) mine = map_sound_packet wanted cue not_pat out ok q l known y mine
