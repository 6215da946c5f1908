-- Where no unit begins, the greatest time behind the head stays.
use Rattle.std.proofs.Common.{◌≡◌, ℕ, List, ◌∷◌, Bool, true, false, ◌||◌, refl, sym, ap, ◌∙◌, Option, None, Some, if◌then◌else◌}
use Rattle.std.proofs.Math.Bool.{or-false}
use Rattle.std.proofs.lemmas.Bool.{or_from, or_left, or_right}
use Rattle.unit_stream.specs.Times.{begins, begins_one, high, raised, stamp}
use Rattle.program_follower.specs.declared.purpose.Purpose.{Purpose}
use Rattle.program_follower.specs.declared.start_follower.StartPlace.TheVariants as places
use Rattle.program_follower.specs.declared.starts.StartPacket.{StartPacket}
use Rattle.program_follower.specs.declared.starts.StreamPart.{StreamPart}
use Rattle.program_follower.specs.Program.{Program, program_of, behind_head, pids_of}
use Rattle.program_follower.specs.Streaming.{first_on, IsStartPacket}
use Rattle.program_follower.specs.Following.{Since, grown, high_of, IsPartOf, IsStartPlace, may_rise}
use Rattle.program_follower.proofs.FollowLemmas.{program_stays, grown_is, no_high}
use Rattle.program_follower.proofs.StreamLemmas.{none_begins, none_high, is_one}

still_by : (wanted : Option ℕ) (p : List ℕ) (past : List (List ℕ)) (r : Option Program) → program_of wanted past ≡ r
    → high (pids_of r) (p ∷ behind_head wanted past) ≡ high (pids_of r) (behind_head wanted past)
    → high_of wanted (p ∷ past) ≡ high_of wanted past
still_by wanted p past None is same =
    ap (high (pids_of (program_of wanted (p ∷ past)))) (sym (grown_is wanted p past) ∙ ap (λ x. grown x p (behind_head wanted past)) is)
    ∙ sym (ap (λ x. high (pids_of x) (behind_head wanted past)) is ∙ no_high (behind_head wanted past))
still_by wanted p past (Some r) is same =
    ap (λ x. high (pids_of x) (behind_head wanted (p ∷ past))) (program_stays wanted p past r is)
    ∙ ap (high (pids_of (Some r))) (sym (grown_is wanted p past) ∙ ap (λ x. grown x p (behind_head wanted past)) is)
    ∙ same ∙ sym (ap (λ x. high (pids_of x) (behind_head wanted past)) is)

still : (wanted : Option ℕ) (p : List ℕ) (past : List (List ℕ))
    → high (pids_of (program_of wanted past)) (p ∷ behind_head wanted past) ≡ high (pids_of (program_of wanted past)) (behind_head wanted past)
    → high_of wanted (p ∷ past) ≡ high_of wanted past
still wanted p past same = still_by wanted p past (program_of wanted past) refl same

-- a packet of none of the streams
pub still_other : (c : Purpose) (p : List ℕ) (past : List (List ℕ)) → first_on (pids_of (program_of c.program past)) p ≡ None
    → high_of c.program (p ∷ past) ≡ high_of c.program past
still_other c p past off = still c.program p past (none_high (pids_of (program_of c.program past)) p (behind_head c.program past) off)

-- a packet of a stream with which no unit begins
pub still_stream : (c : Purpose) (p : List ℕ) (past : List (List ℕ)) (i : ℕ) (x : StartPacket) → IsStartPlace (places.Stream i x) c p past
    → ((pid : ℕ) → IsStartPacket x (pids_of (program_of c.program past)) pid p (behind_head c.program past) → begins pid p (behind_head c.program past) ≡ false)
    → high_of c.program (p ∷ past) ≡ high_of c.program past
still_stream c p past i x h none =
    let pids = pids_of (program_of c.program past) in
    let b = behind_head c.program past in
    let (pid, both) = h.2 in
    let one = is_one pids p b (i, pid) both.0 in
    still c.program p past (ap (λ t. if t then raised (high pids b) (stamp p) else high pids b) (one.begins_it ∙ none pid both.1))

-- where no unit begins with it the greatest time stays
pub part_still : (c : Purpose) (x : StreamPart) (p : List ℕ) (past : List (List ℕ)) → IsPartOf c x p past
    → ((pid : ℕ) → IsStartPacket x.part (pids_of (program_of c.program past)) pid p (behind_head c.program past) → begins pid p (behind_head c.program past) ≡ false)
    → high_of c.program (p ∷ past) ≡ high_of c.program past
part_still c x p past g none = still_stream c p past x.stream x.part (g.elsewhere.cue, g.elsewhere.map, g.place) none

-- behind the head the greatest time is that of the streams that are known
pub high_grown : (wanted : Option ℕ) (p : List ℕ) (past : List (List ℕ)) (r : Program) → program_of wanted past ≡ Some r
    → high_of wanted (p ∷ past) ≡ high (pids_of (program_of wanted past)) (p ∷ behind_head wanted past)
high_grown wanted p past r is =
    ap (λ x. high (pids_of x) (behind_head wanted (p ∷ past))) (program_stays wanted p past r is ∙ sym is)
    ∙ ap (high (pids_of (program_of wanted past))) (sym (grown_is wanted p past) ∙ ap (λ x. grown x p (behind_head wanted past)) is)

pub since_known : {S : Type 0} (reads : S → List ℕ → List (List ℕ) → Type 0) (s : S) (o : Option Program) (past : List (List ℕ)) → Since reads (Some s) o past
    → (r : Program) × (o ≡ Some r)
since_known reads s None past h = absurd h
since_known reads s (Some r) past h = (r, refl)

-- ---- exactly when it may rise

pub rises_other : (c : Purpose) (p : List ℕ) (past : List (List ℕ)) → IsStartPlace places.Other c p past → false ≡ may_rise c p past
rises_other c p past h = sym (or_from _ _ (none_begins (pids_of (program_of c.program past)) p (behind_head c.program past) h.2) (or_from _ _ h.1 h.0))

pub rises_map : (c : Purpose) (p : List ℕ) (past : List (List ℕ)) → IsStartPlace places.Map c p past → true ≡ may_rise c p past
rises_map c p past h = sym (or_right _ _ (or_left _ _ h))

pub rises_cue : (c : Purpose) (p : List ℕ) (past : List (List ℕ)) → IsStartPlace places.Cue c p past → true ≡ may_rise c p past
rises_cue c p past h = sym (or_right _ _ (or_right _ _ h.1))

pub rises_stream : (c : Purpose) (p : List ℕ) (past : List (List ℕ)) (i : ℕ) (x : StartPacket) (r : Bool) → IsStartPlace (places.Stream i x) c p past
    → ((pid : ℕ) → IsStartPacket x (pids_of (program_of c.program past)) pid p (behind_head c.program past) → r ≡ begins pid p (behind_head c.program past))
    → r ≡ may_rise c p past
rises_stream c p past i x r h is =
    let pids = pids_of (program_of c.program past) in
    let b = behind_head c.program past in
    let (pid, both) = h.2 in
    let one = is_one pids p b (i, pid) both.0 in
    is pid both.1 ∙ sym one.begins_it ∙ sym (ap (λ t. begins_one pids p b || t) (or_from _ _ h.1 h.0) ∙ or-false (begins_one pids p b))
