-- Each event that is armed has the program of the event that was accepted for its start.
use Rattle.std.proofs.Common.{◌≡◌, ℕ, zero, suc, ◌==◌, Bool, true, false, ◌&&◌, ◌⊎◌, inl, inr, refl, sym, ap, ◌∙◌, subst, List, [], ◌∷◌, ◌++◌, if◌then◌else◌}
use Rattle.std.specs.Prelude.{ℤ, map, filter, Option, None, Some, Result, Ok, Err}
use Rattle.std.specs.List.{list_any}
use Rattle.std.specs.Ordering.{int_eq}
use Rattle.ts_packet.proofs.Cases.{by_test}
use Rattle.pes_time.specs.Line.{place}
use Rattle.scte35_codec.specs.declared.cue_out.CueOut.{CueOut}
use Rattle.scte35_codec.specs.declared.cue_out.CueOut.TheVariants.{Start, Cancel, End}
use Rattle.scte35_codec.proofs.WrittenLemmas.{cue_back}
use Rattle.event_table.specs.Standing.{Standing, cancelled_one, ending_at, with_first, repeats, is_ahead_of, arm_answer, cancel_answer, shorten_answer, is_of}
use Rattle.event_table.specs.declared.table.Armed.{Armed}
use Rattle.event_table.specs.declared.table.Armed.TheVariants.{New, Same}
use Rattle.event_table.specs.declared.table.ArmRefusal.{ArmRefusal}
use Rattle.event_table.specs.declared.table.ShortenRefusal.{ShortenRefusal}
use Rattle.event_table.specs.declared.table.CancelRefusal.{CancelRefusal}
use Rattle.armed_events.specs.Asking.{asked_of}
use Rattle.armed_events.specs.Arming.{Keep, Ignore, is_fresh, by_arm_answer, by_shorten_answer, by_cancel_answer, change, changed, standing_at}
use Rattle.injector.specs.declared.refusal.Refusal.{Refusal}
use Rattle.injector.specs.Asking.{is_start}
use Rattle.injector.specs.Verdicts.{time_at, verdict_of}
use Rattle.injector.specs.Asking.{asked_of as request_of}
use Rattle.injector.specs.Turns.{Turn, Judged, Passed, greatest_in}
use Rattle.injector.specs.Senders.{Sender, is_none, chosen, tell, with_event, new_sender, stands_by, sender_stands, events_in, with_judged, with_request, senders}
use Rattle.cue_laws.specs.Events.{LineEvent}
use Rattle.cue_laws.proofs.Lists.{Distinct}
use Rattle.pes_time.proofs.IntLemmas.{int-same, int-is}
use Rattle.ts_packet.specs.Membership.{In}
use Rattle.ts_packet.proofs.MembershipLemmas.{In-map}
use Rattle.path_laws.specs.Path.{Item, Sent, Packet, high_on, left, armed_on}
use Rattle.cue_laws.specs.Events.{Turn as LineTurn}
use Rattle.cue_laws.specs.Thinning.{times}
use Rattle.path_laws.specs.Path.{line}
use Rattle.path_laws.proofs.Alike.{Alike, alike-in, In-pushed, In-front}
use Rattle.path_laws.proofs.Switch.{IsView}
use Rattle.path_laws.proofs.Reading.{AreNear, high-left, high-times}
use Rattle.path_laws.proofs.Sending.{IsNamed, AreNamed}
use Rattle.path_laws.proofs.Blocks.{SendersNamed, AlwaysNamed}

-- the program of the first event with this start
abbrev pub program_at : List Standing → ℤ → ℕ
program_at [] start = 0
program_at (e ∷ es) start = if int_eq e.start start then e.program else program_at es start

abbrev pub Named : (ℤ → ℕ) → List Standing → Type 0
Named program es = (s : Standing) → In s es → s.program ≡ program s.start

-- it is that of one of them
program-found : (es : List Standing) (s : Standing) → In s es → (t : Standing) × In t es × (t.start ≡ s.start) × (program_at es s.start ≡ t.program)
program-found [] s i = absurd i
program-found (e ∷ es) s (inl is) =
    let here : int_eq e.start s.start ≡ true = ap (λ (z : Standing). int_eq e.start z.start) is ∙ int-same e.start in
    (e, inl refl, int-is e.start s.start here, simp here refl)
program-found (e ∷ es) s (inr i) =
    by_test (int_eq e.start s.start)
    (λ here. (e, inl refl, int-is e.start s.start here, simp here refl))
    (λ off. let r = program-found es s i in (r.0, inr r.1, r.2, simp off r.3))

-- no two events of the injector's have one start
start-once : (xs : List Standing) (ys : List LineEvent) → Alike IsView xs ys → Distinct ys → (a b : Standing) → In a xs → In b xs → a.start ≡ b.start → a ≡ b
start-once xs [] l d a b i j same = absurd (subst (In a) l i)
start-once xs (y ∷ ys) l d a b i j same =
    which (In-pushed a l.1 l.0 (subst (In a) l.2 i)) (In-pushed b l.1 l.0 (subst (In b) l.2 j)) (λ p q. start-once l.0 ys l.4 d.1 a b p q same)
  where
    last : (z : Standing) → In z l.0 → z.start ≡ (l.1).start → ⊥
    last z p is =
        let r = alike-in IsView z l.0 ys l.4 p in
        d.0 r.0 r.1 (sym (ap (λ (e : LineEvent). e.start) r.2) ∙ is ∙ ap (λ (e : LineEvent). e.start) l.3)

    which : In a l.0 ⊎ (a ≡ l.1) → In b l.0 ⊎ (b ≡ l.1) → (In a l.0 → In b l.0 → a ≡ b) → a ≡ b
    which (inl p) (inl q) older = older p q
    which (inl p) (inr is) older = absurd (last a p (same ∙ ap (λ (e : Standing). e.start) is))
    which (inr is) (inl q) older = absurd (last b q (sym same ∙ ap (λ (e : Standing). e.start) is))
    which (inr is) (inr so) older = is ∙ sym so

pub programs-known : (xs : List Standing) (ys : List LineEvent) → Alike IsView xs ys → Distinct ys → Named (program_at xs) xs
programs-known xs ys l d s i =
    let r = program-found xs s i in
    sym (r.3 ∙ ap (λ (e : Standing). e.program) (start-once xs ys l d r.0 s r.1 i r.2))

-- ---- events stay with their programs

abbrev pub Kin : List Sender → List Sender → Type 0
Kin xs ys = (x : Sender) → In x xs → (y : Sender) × In y ys × (y.event.start ≡ x.event.start) × (y.event.program ≡ x.event.program)

kin-self : (xs : List Sender) → Kin xs xs
kin-self xs x i = (x, i, refl, refl)

kin-push : (xs : List Sender) (z : Sender) → Kin xs (xs ++ z ∷ [])
kin-push xs z x i = (x, In-front x z xs i, refl, refl)

kin-first : (test : Sender → Bool) (f : Sender → Sender) → ((x : Sender) → ((f x).event.start ≡ x.event.start) × ((f x).event.program ≡ x.event.program)) → (xs : List Sender) → Kin xs (with_first test f xs)
kin-first test f keeps [] x i = absurd i
kin-first test f keeps (z ∷ xs) x (inl is) =
    by_test (test z)
    (λ u. simp u (f z, inl refl, (keeps z).0 ∙ ap (λ (y : Sender). y.event.start) (sym is), (keeps z).1 ∙ ap (λ (y : Sender). y.event.program) (sym is)))
    (λ u. simp u (z, inl refl, ap (λ (y : Sender). y.event.start) (sym is), ap (λ (y : Sender). y.event.program) (sym is)))
kin-first test f keeps (z ∷ xs) x (inr i) =
    by_test (test z)
    (λ u. simp u (x, inr i, refl, refl))
    (λ u. let r = kin-first test f keeps xs x i in simp u (r.0, inr r.1, r.2, r.3))

kin-tell : (h later : Option ℤ) (xs : List Sender) → Kin xs (map (tell h later) xs)
kin-tell h later xs x i = (tell h later x, In-map (tell h later) x xs i, ap (λ (e : Standing). e.start) (same x), ap (λ (e : Standing). e.program) (same x))
  where
    same : (z : Sender) → (tell h later z).event ≡ z.event
    same z = by_test (is_none (chosen z h later)) (λ u. simp u refl) (λ u. simp u refl)

kin-request : (h : Option ℤ) (xs : List Sender) (x : Result _ Refusal) → Kin xs (with_request h xs x)
kin-request h xs (Err e) = kin-self xs
kin-request None xs (Ok a) = by (verdict_of None (events_in (filter (sender_stands None) xs)) a.request)
  where
    by : (v : Result (Unit {0}) Refusal) → Kin xs (with_judged None (stands_by None a.request.splice_event_id) xs a v)
    by (Err e) = kin-self xs
    by (Ok u) =
        by_test (is_start a.request)
        (λ c. simp c (kin-self xs))
        (λ c. by_test (a.request.splice_insert_type == 3)
        (λ d. simp (c, d) (kin-self xs))
        (λ d. simp (c, d) (kin-first (stands_by None a.request.splice_event_id) (with_event cancelled_one) (λ x. (refl, refl)) xs)))
kin-request (Some h) xs (Ok a) = by (verdict_of (Some h) (events_in (filter (sender_stands (Some h)) xs)) a.request)
  where
    by : (v : Result (Unit {0}) Refusal) → Kin xs (with_judged (Some h) (stands_by (Some h) a.request.splice_event_id) xs a v)
    by (Err e) = kin-self xs
    by (Ok u) =
        by_test (is_start a.request)
        (λ c. simp c (kin-push xs (new_sender h a)))
        (λ c. by_test (a.request.splice_insert_type == 3)
        (λ d. simp (c, d) (kin-first (stands_by (Some h) a.request.splice_event_id) (with_event (ending_at (time_at h a.request))) (λ x. (refl, refl)) xs))
        (λ d. simp (c, d) (kin-first (stands_by (Some h) a.request.splice_event_id) (with_event cancelled_one) (λ x. (refl, refl)) xs)))

kin-turn : (index : ℕ) (t : Turn) (past : List Turn) → Kin (senders index past) (senders index (t ∷ past))
kin-turn index (Judged m) past = kin-request (greatest_in past) (senders index past) (request_of index m)
kin-turn index (Passed later) past = kin-tell (greatest_in past) later (senders index past)

named-back : (program : ℤ → ℕ) (xs ys : List Sender) → Kin xs ys → SendersNamed program ys → SendersNamed program xs
named-back program xs ys kin named x i = let r = kin x i in sym r.3 ∙ named r.0 r.1 ∙ ap program r.2

pub always-named : (program : ℤ → ℕ) (index : ℕ) (past : List Turn) → SendersNamed program (senders index past) → AlwaysNamed program index past
always-named program index [] named = tt
always-named program index (t ∷ past) named =
    let before = named-back program (senders index past) (senders index (t ∷ past)) (kin-turn index t past) named in
    (before, always-named program index past before)

-- ---- the switch

first-named : (program : ℤ → ℕ) (test : Standing → Bool) (f : Standing → Standing) → ((s : Standing) → ((f s).start ≡ s.start) × ((f s).program ≡ s.program)) → (es : List Standing)
    → Named program es → Named program (with_first test f es)
first-named program test f keeps [] named = named
first-named program test f keeps (e ∷ es) named =
    by_test (test e)
    (λ u. simp u (λ s i. here s i))
    (λ u. simp u (λ s i. there (first-named program test f keeps es (λ z j. named z (inr j))) s i))
  where
    here : (s : Standing) → (s ≡ f e) ⊎ In s es → s.program ≡ program s.start
    here s (inl is) = ap (λ (z : Standing). z.program) is ∙ (keeps e).1 ∙ named e (inl refl) ∙ ap program (sym (keeps e).0 ∙ ap (λ (z : Standing). z.start) (sym is))
    here s (inr i) = named s (inr i)

    there : Named program (with_first test f es) → (s : Standing) → (s ≡ e) ⊎ In s (with_first test f es) → s.program ≡ program s.start
    there older s (inl is) = named s (inl is)
    there older s (inr i) = older s i

push-named : (program : ℤ → ℕ) (e : Standing) (es : List Standing) → e.program ≡ program e.start → Named program es → Named program (es ++ e ∷ [])
push-named program e es new named s i = which (In-pushed s e es i)
  where
    which : In s es ⊎ (s ≡ e) → s.program ≡ program s.start
    which (inl j) = named s j
    which (inr is) = ap (λ (z : Standing). z.program) is ∙ new ∙ ap (λ (z : Standing). program z.start) (sym is)

start-named : (program : ℤ → ℕ) (latest : Option ℤ) (es : List Standing) (e : Standing) → e.program ≡ program e.start → (b c : Bool) (a : Result Armed ArmRefusal) → Named program es
    → Named program (changed latest (if b then Keep else (if c then by_arm_answer e a else Ignore)) es)
start-named program latest es e new true c a named = named
start-named program latest es e new false false a named = named
start-named program latest es e new false true (Ok New) named = push-named program e es new named
start-named program latest es e new false true (Ok Same) named = named
start-named program latest es e new false true (Err f) named = named

end-named : (program : ℤ → ℕ) (latest : Option ℤ) (es : List Standing) (id : ℕ) (time : ℤ) (a : Result Armed ShortenRefusal) → Named program es → Named program (changed latest (by_shorten_answer id time a) es)
end-named program latest es id time (Ok New) named = first-named program (is_of latest id) (ending_at time) (λ s. (refl, refl)) es named
end-named program latest es id time (Ok Same) named = named
end-named program latest es id time (Err f) named = named

cancel-named : (program : ℤ → ℕ) (latest : Option ℤ) (es : List Standing) (id : ℕ) (a : Result (Unit {0}) CancelRefusal) → Named program es → Named program (changed latest (by_cancel_answer id a) es)
cancel-named program latest es id (Ok u) named = first-named program (is_of latest id) cancelled_one (λ s. (refl, refl)) es named
cancel-named program latest es id (Err f) named = named

cue-named : (program : ℤ → ℕ) (items : List Item) (cue : CueOut) → AreNear (Sent cue ∷ items) → IsNamed program (high_on items) cue → Named program (armed_on items) → Named program (armed_on (Sent cue ∷ items))
cue-named program items (Start event time duration told avail expected avails) near new named =
    let es = armed_on items in
    let h = high_on items in
    let e : Standing = record { id = event; start = place h time; length = duration; asked = duration; program = told; cancelled = false } in
    subst (λ r. Named program (changed h (change h (standing_at h es) (asked_of r)) es)) (sym (cue_back (Start event time duration told avail expected avails) near.0).1)
    (start-named program h es e new (list_any (repeats e) (standing_at h es)) (is_fresh e && is_ahead_of h e.start) (arm_answer (standing_at h es) e) named)
cue-named program items (Cancel event) near new named =
    let es = armed_on items in
    let h = high_on items in
    subst (λ r. Named program (changed h (change h (standing_at h es) (asked_of r)) es)) (sym (cue_back (Cancel event) near.0).1)
    (cancel-named program h es event (cancel_answer h (standing_at h es) event) named)
cue-named program items (End event time) near new named =
    let es = armed_on items in
    let h = high_on items in
    subst (λ r. Named program (changed h (change h (standing_at h es) (asked_of r)) es)) (sym (cue_back (End event time) near.0).1)
    (end-named program h es event (place h time) (shorten_answer h (standing_at h es) event (place h time)) named)

pub armed-named : (program : ℤ → ℕ) (items : List Item) → AreNear items → AreNamed program items → Named program (armed_on items)
armed-named program [] near named = λ s i. absurd i
armed-named program (Sent cue ∷ past) near named = cue-named program past cue near named.0 (armed-named program past near.2 named.1)
armed-named program (Packet h ∷ past) near named = armed-named program past near.1 named

named-times : (program : ℤ → ℕ) (n : ℕ) (cue : CueOut) (items : List Item) → ((k : ℕ) → high_on (times k (Sent cue) items) ≡ high_on items) → IsNamed program (high_on items) cue → AreNamed program items
    → AreNamed program (times n (Sent cue) items)
named-times program zero cue items clock new named = named
named-times program (suc n) cue items clock new named = (subst (λ k. IsNamed program k cue) (sym (clock n)) new, named-times program n cue items clock new named)

pub named-left : (program : ℤ → ℕ) (copies : List LineTurn → ℕ) (items : List Item) → AreNamed program items → AreNamed program (left copies items)
named-left program copies [] named = tt
named-left program copies (Sent cue ∷ past) named =
    named-times program (copies (line (Sent cue ∷ past))) cue (left copies past) (λ k. high-times k cue (left copies past))
    (subst (λ k. IsNamed program k cue) (sym (high-left copies past)) named.0) (named-left program copies past named.1)
named-left program copies (Packet h ∷ past) named = named-left program copies past named
