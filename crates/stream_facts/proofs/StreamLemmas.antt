-- A stream whose PID has no packet has no unit.
use Rattle.std.proofs.Common.{◌≡◌, ℕ, List, [], ◌∷◌, reverse, refl, ap, ◌∙◌, None, false}
use Rattle.std.proofs.lemmas.List.{reverse-reverse}
use Rattle.ts_packet.specs.Fields.{payload_on}
use Rattle.psi_tables.specs.Streams.{is_switched}
use Rattle.random_access.specs.Points.{begins_of, begins_back}
use Rattle.random_access.proofs.PointLemmas.{begins_in_order}
use Rattle.stream_facts.specs.declared.facts.StreamFacts.{StreamFacts}
use Rattle.stream_facts.specs.Pids.{is_used}
use Rattle.stream_facts.specs.Facts.{IsStreamOf}
use Rattle.stream_facts.proofs.PidLemmas.{off_newest, off_older}

nothing_begins : (pid : ℕ) (past : List (List ℕ)) → is_used pid past ≡ false → begins_back pid past ≡ []
unfolding payload_on
nothing_begins pid [] h = refl
nothing_begins pid (p ∷ past) h =
    let off = off_newest pid p past h in
    let no : payload_on pid p ≡ false = simp off in
    let before = nothing_begins pid past (off_older pid p past h) in
    simp (no, before)

no_begins : (pid : ℕ) (past : List (List ℕ)) → is_used pid past ≡ false → begins_of pid (reverse past) ≡ []
no_begins pid past h = begins_in_order pid (reverse past) ∙ ap (begins_back pid) (reverse-reverse past) ∙ nothing_begins pid past h

pub nothing_told : (past : List (List ℕ)) (s : StreamFacts) → is_used s.pid past ≡ false → s.switched ≡ is_switched s.stream_type → s.units ≡ 0
    → s.first_pts ≡ None → s.last_pts ≡ None → s.points.items ≡ [] → IsStreamOf past s
nothing_told past s unused switched units first last points =
    let none = no_begins s.pid past unused in
    record {
      switched = switched;
      units = rw none units;
      first = rw none first;
      last = rw none last;
      points_are = rw none points;
    }
