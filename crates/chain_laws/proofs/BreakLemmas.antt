-- The events that a switch is armed with are the accepted ones.
use Rattle.std.specs.Prelude.{◌≤ℤ◌, ◌+ℤ◌, ℤ, pos, filter, count_by, Some}
use Rattle.std.proofs.Common.{◌≡◌, ◌⊎◌, inl, inr, refl, sym, ap, ◌∙◌, subst, ℕ, ◌<◌, List, [], ◌∷◌, ◌++◌, length, Bool, true, arith}
use Rattle.std.proofs.lemmas.Int.{ints}
use Rattle.std.proofs.lemmas.List.Sums.{length-filter}
use Rattle.program_follower.specs.Following.{high_of}
use Rattle.psi_tables.specs.declared.config.Config.{Config}
use Rattle.event_table.specs.Standing.{Standing}
use Rattle.armed_laws.specs.Laws.{IsApartOf, NoneMeet}
use Rattle.armed_laws.proofs.MeetLemmas.{none-meet}
use Rattle.splice_plans.specs.Playing.{by_start}
use Rattle.injector.specs.Steps.{Step, Message, Packet, turns_in, cued}
use Rattle.cue_laws.specs.Events.{LineEvent}
use Rattle.cue_laws.specs.Events.{events as line_events}
use Rattle.cue_laws.proofs.Lists.{Distinct as LineDistinct}
use Rattle.cue_laws.proofs.Fair.{stand}
use Rattle.path_laws.specs.Path.{asked_line}
use Rattle.path_laws.specs.Packets.{IsRunOf}
use Rattle.path_laws.proofs.Alike.{Alike, In-pushed, alike-in}
use Rattle.path_laws.proofs.Switch.{IsView}
use Rattle.path_laws.proofs.Requests.{stood}
use Rattle.path_laws.proofs.Packets.{run-history}
use Rattle.path_laws.proofs.Whole.{cued_stream_arms}
use Rattle.path_laws.proofs.Proofs.{events-alike}
use Rattle.ts_packet.specs.Membership.{In}
use Rattle.ts_packet.proofs.MembershipLemmas.{In-filter, In-filtered}
use Rattle.splice_plans.proofs.StartLemmas.{Distinct, distinct-filter, by_start-from, by_start-to, rising-sorted, one_order, sorted-length}
use Rattle.chain_laws.specs.Breaks.{accepted_by, armed_by, SameTaken, BreaksAreArmed}

-- ---- no two have one start

distinct-pushed : (es : List Standing) (x : Standing) → Distinct es → ((b : Standing) → In b es → b.start ≡ x.start → ⊥) → Distinct (es ++ x ∷ [])
distinct-pushed [] x d other = ((λ b i is. i), tt)
distinct-pushed (a ∷ es) x d other = ((λ b i is. by b (In-pushed b x es i) is), distinct-pushed es x d.1 (λ b i. other b (inr i)))
  where
    by : (b : Standing) → In b es ⊎ (b ≡ x) → b.start ≡ a.start → ⊥
    by b (inl i) is = d.0 b i is
    by b (inr e) is = other a (inl refl) (sym is ∙ ap (λ (z : Standing). z.start) e)

distinct-alike : (xs : List Standing) (ys : List LineEvent) → Alike IsView xs ys → LineDistinct ys → Distinct xs
distinct-alike xs [] a d = subst Distinct (sym a) tt
distinct-alike xs (y ∷ ys) a d =
    subst Distinct (sym a.2)
    (distinct-pushed a.0 a.1 (distinct-alike a.0 ys a.4 d.1)
    (λ b i is. let r = alike-in IsView b a.0 ys a.4 i in
    d.0 r.0 r.1 (ap (λ (e : LineEvent). e.start) (sym r.2) ∙ is ∙ ap (λ (e : LineEvent). e.start) a.3)))

pub accepted-distinct : (c : Config) (steps : List Step) → IsRunOf c steps → Distinct (accepted_by c steps)
accepted-distinct c steps r =
    let i = run-history c steps r in
    let past = turns_in c.program steps in
    distinct-alike (accepted_by c steps) (line_events (asked_line c.index past)) (events-alike c.index past i) (stand (asked_line c.index past) (stood c.index past i).accepted).order.distinct

apart-start : (s : ℤ) (n : ℕ) (t : ℤ) (m : ℕ) → 0 < n → 0 < m → ((s +ℤ pos n) ≤ℤ t) ⊎ ((t +ℤ pos m) ≤ℤ s) → t ≡ s → ⊥
apart-start s n t m l k (inl a) is = omega (arith, ints, l, a, is)
apart-start s n t m l k (inr a) is = omega (arith, ints, k, a, is)

apart-distinct : (e : Standing) (es : List Standing) → 0 < e.length → IsApartOf e es → NoneMeet es → (b : Standing) → In b es → b.start ≡ e.start → ⊥
apart-distinct e [] l a n b i is = i
apart-distinct e (x ∷ es) l a n b (inl same) is = apart-start e.start e.length x.start x.length l n.0 a.0 (ap (λ (z : Standing). z.start) (sym same) ∙ is)
apart-distinct e (x ∷ es) l a n b (inr i) is = apart-distinct e es l a.1 n.2 b i is

meet-distinct : (es : List Standing) → NoneMeet es → Distinct es
meet-distinct [] n = tt
meet-distinct (e ∷ es) n = (apart-distinct e es n.0 n.1 n.2, meet-distinct es n.2)

-- ---- in order of start

-- ---- counts

pub count-sorted : (test : Standing → Bool) (es : List Standing) → count_by test es ≡ length (by_start (filter test es))
count-sorted test es = sym (length-filter test es) ∙ sym (sorted-length (filter test es))

-- ---- the law

abbrev Alikes : (Standing → Bool) → List Standing → List Standing → Type 0
Alikes test es fs = (e : Standing) → test e ≡ true → (In e es → In e fs) × (In e fs → In e es)

pub same-taken : (test : Standing → Bool) (es fs : List Standing) → Distinct es → Distinct fs → Alikes test es fs → SameTaken test es fs
same-taken test es fs d g both =
    let one = one_order (by_start (filter test es)) (by_start (filter test fs))
    (rising-sorted (filter test es) (distinct-filter test es d)) (rising-sorted (filter test fs) (distinct-filter test fs g))
    (λ x i. let p = In-filtered test x es (by_start-from (filter test es) x i) in by_start-to (filter test fs) x (In-filter test x fs ((both x p.1).0 p.0) p.1))
    (λ x i. let p = In-filtered test x fs (by_start-from (filter test fs) x i) in by_start-to (filter test es) x (In-filter test x es ((both x p.1).1 p.0) p.1)) in
    record { sorted = one; counted = count-sorted test es ∙ ap length one ∙ sym (count-sorted test fs) }

pub breaks_are_armed : BreaksAreArmed
breaks_are_armed c [] r w test t = record { sorted = refl; counted = refl }
breaks_are_armed c (Message m ∷ past) r w test t = absurd w
breaks_are_armed c (Packet p ∷ past) r w test t =
    let steps = Packet p ∷ past in
    same-taken test (armed_by c steps) (accepted_by c steps) (meet-distinct (armed_by c steps) (none-meet c.cue_pid (high_of (Some c.program)) (cued c steps))) (accepted-distinct c steps r)
    (λ e takes. let law = cued_stream_arms c p past r e (t e takes) in (law.0, law.1))
