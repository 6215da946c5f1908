-- A table that lost cues and forgot events is judged by the whole run.
use Rattle.std.specs.Prelude.{ℤ, pos, ◌+ℤ◌, map}
use Rattle.std.proofs.Common.{◌≡◌, ℕ, zero, suc, true, sym, ap, ◌∙◌, subst, List, [], ◌∷◌, arith}
use Rattle.std.proofs.lemmas.Int.{ints}
use Rattle.cue_laws.specs.Events.{Turn, Started, Cancelled, Ended, Passed, high, before, events, NeverFalls, stands, covers, name_of, holders, upon}
use Rattle.unit_stream.specs.Clocks.{Rises}
use Rattle.cue_laws.specs.Thinning.{MayAllCome, times, thinned}
use Rattle.cue_laws.specs.Cueing.{IsRun, cue_turns}
use Rattle.cue_laws.specs.Tables.{standing}
use Rattle.cue_laws.specs.Laws.{TableIsJudged}
use Rattle.cue_laws.proofs.Settling.{settlement}
use Rattle.cue_laws.proofs.Orders.{before-more}
use Rattle.cue_laws.proofs.Thin.{high-thinned}
use Rattle.cue_laws.proofs.Path.{cued_goes, run_front}
use Rattle.cue_laws.proofs.Enough.{covers-parts, cue_path_holders}
use Rattle.cue_laws.proofs.Forgetting.{filter-filter, forgetting_is_safe}

falls-starts : (n id : ℕ) (start end : ℤ) (rest : List Turn) → NeverFalls rest → NeverFalls (times n (Started id start end) rest)
falls-starts zero id start end rest f = f
falls-starts (suc n) id start end rest f = falls-starts n id start end rest f

falls-cancels : (n id : ℕ) (rest : List Turn) → NeverFalls rest → NeverFalls (times n (Cancelled id) rest)
falls-cancels zero id rest f = f
falls-cancels (suc n) id rest f = falls-cancels n id rest f

falls-ends : (n id : ℕ) (time : ℤ) (rest : List Turn) → NeverFalls rest → NeverFalls (times n (Ended id time) rest)
falls-ends zero id time rest f = f
falls-ends (suc n) id time rest f = falls-ends n id time rest f

falls-thinned : (copies : List Turn → ℕ) (all : List Turn) → MayAllCome all → NeverFalls (thinned copies all)
falls-thinned copies [] s = tt
falls-thinned copies (Started id start end ∷ past) s = falls-starts (copies (Started id start end ∷ past)) id start end (thinned copies past) (falls-thinned copies past s.1)
falls-thinned copies (Cancelled id ∷ past) s = falls-cancels (copies (Cancelled id ∷ past)) id (thinned copies past) (falls-thinned copies past s.1)
falls-thinned copies (Ended id time ∷ past) s = falls-ends (copies (Ended id time ∷ past)) id time (thinned copies past) (falls-thinned copies past s.1)
falls-thinned copies (Passed h ∷ past) s = (subst (λ k. Rises k h) (sym (high-thinned copies past)) s.0, falls-thinned copies past s.1)

falls-run : (run : List Turn) → IsRun run → NeverFalls run
falls-run [] r = tt
falls-run (Started id start end ∷ past) r = falls-run past r.1
falls-run (Cancelled id ∷ past) r = falls-run past r.1
falls-run (Ended id time ∷ past) r = falls-run past r.1
falls-run (Passed h ∷ past) r = (r.0, falls-run past r.1)

-- what holds a time not ten seconds back is not forgotten
holders-standing : (all : List Turn) → NeverFalls all → (time : ℤ) → before (high all) (time +ℤ pos 900000) ≡ true → holders time (standing all) ≡ holders time (events all)
holders-standing all falls time near =
    ap (holders time) (forgetting_is_safe all falls)
    ∙ ap (map name_of) (filter-filter (covers time) (stands (high all))
    (λ e c. let p = (covers-parts time e c).to in before-more (high all) (time +ℤ pos 900000) (e.end +ℤ pos 900000) near (omega (arith, ints, p))) (events all))

pub table_is_judged : TableIsJudged
table_is_judged copies h past later last r k time reached near =
    let front = Passed h ∷ past in
    let sound = (cued_goes front (run_front front later r.1)).sound in
    holders-standing (thinned copies (cue_turns front)) (falls-thinned copies (cue_turns front) sound) time near
    ∙ cue_path_holders copies h past later last r k time reached
    ∙ sym (settlement front (Passed last ∷ later) time (falls-run (Passed last ∷ upon later front) r) reached)
