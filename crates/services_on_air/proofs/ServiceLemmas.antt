-- One service: what becomes of a packet in its stretch, and behind it.
use Rattle.std.proofs.Common.{◌≡◌, ℕ, ◌+◌, List, [], ◌∷◌, length, Bool, true, false, not, refl, sym, ap, subst, ◌∙◌, arith}
use Rattle.std.specs.Prelude.{if◌then◌else◌, ◌==◌, None, Some}
use Rattle.std.proofs.lemmas.Bool.{eq-eqb}
use Rattle.ts_packet.specs.Fields.{marked, on_one}
use Rattle.program_follower.specs.Program.{known_pids}
use Rattle.program_follower.specs.Following.{IsElsewhere}
use Rattle.service_laws.specs.Services.{ServiceTerms}
use Rattle.chain_services.proofs.UnfollowedLemmas.{elsewhere-same}
use Rattle.injector.specs.Steps.{Step, Packet as PacketStep, packets_in}
use Rattle.injector.specs.Injecting.{InjectorStandsFor}
use Rattle.chain_engine.specs.Followed.{HasFollowed}
use Rattle.psi_section.specs.Assembling.{capped}
use Rattle.psi_tables.specs.declared.network.NetworkFault.{NetworkFault}
use Rattle.program_follower.specs.declared.purpose.Purpose.{Purpose}
use Rattle.on_air.specs.Stretches.{Entry, Judgement, Judged, Passed, Damaged, Jumped, Verdict as Verdict', Is, BeginsNew, is_judged, as_first, verdict, joined, with_next, first_entry, as_read}
use Rattle.on_air.specs.Marking.{Becomes, BecomesOf, is_judged_by, Keeps}
use Rattle.on_air.specs.AirRuns.{newest, has_no}
use Rattle.on_air.specs.declared.marks.Marks.{Marks}
use Rattle.on_air.specs.declared.marks.Verdict.{Verdict}
use Rattle.on_air.specs.declared.marks.Verdict.TheVariants as verdicts
use Rattle.services_on_air.specs.Airing.{Airing, next_of, anew_with, behind_first, before_last, is_last_left, known_of, known_before, owns, leaves, learns}
use Rattle.services_on_air.specs.Standing.{AirStandsFor, BeginsBehind, IsSettled}
use Rattle.services_on_air.specs.declared.service.AirService.{AirService}
use Rattle.program_follower.specs.Purposes.{writing_cues}

-- where no stretch begins: its judgement, behind some packet of its stretch
pub record GoesOn (m : Marks) (c : Purpose) (p : List ℕ) (ss : List (List Entry)) (b : Bool) : Type 0 where
  pub j : Judgement
  pub past : List Entry
  pub earlier : List (List Entry)
  pub before : ss ≡ past ∷ earlier
  pub after : with_next c p ss ≡ (record { packet = p; judgement = j } ∷ past) ∷ earlier
  pub keeps : Keeps m c (record { packet = p; judgement = j } ∷ past)
  pub judged : is_judged j ≡ b

pub goes-on : (answer : Verdict) (m : Marks) (c : Purpose) (p : List ℕ) (ss : List (List Entry)) (b : Bool) → has_no ss ≡ false → Becomes answer m c p (newest ss)
    → is_judged_by answer ≡ b → ((fault : NetworkFault) → answer ≡ verdicts.BeginsAnew fault → ⊥) → GoesOn m c p ss b
goes-on answer m c p [] b some h is never = absurd (cc)
goes-on answer m c p (past ∷ earlier) b some h is never = by_verdict (verdict c p past) refl h where
  made : (j : Judgement) → verdict c p past ≡ Is j → is_judged j ≡ is_judged_by answer → Keeps m c (record { packet = p; judgement = j } ∷ past) → GoesOn m c p (past ∷ earlier) b
  made j v e k = record { j = j; past = past; earlier = earlier; before = refl; after = ap (λ w. joined c w p past earlier) v; keeps = k; judged = e ∙ is }

  by_verdict : (v : Verdict') → verdict c p past ≡ v → BecomesOf answer v (λ j. Keeps m c (record { packet = p; judgement = j } ∷ past)) → GoesOn m c p (past ∷ earlier) b
  by_verdict (Is Judged) v h = made Judged v (sym (ap is_judged_by h.0)) h.1
  by_verdict (Is Passed) v h = made Passed v (sym (ap is_judged_by h.0)) h.1
  by_verdict (Is Damaged) v h = made Damaged v (sym (ap is_judged_by h.0)) h.1
  by_verdict (Is Jumped) v h = made Jumped v (sym (ap is_judged_by h.0)) h.1
  by_verdict (BeginsNew fault) v h = absurd (never fault h.0)

-- as behind each packet that is just judged
pub judges-on : (m : Marks) (c : Purpose) (p : List ℕ) (ss : List (List Entry)) → has_no ss ≡ false → Becomes verdicts.Judged m c p (newest ss) → GoesOn m c p ss true
judges-on m c p ss some h = goes-on verdicts.Judged m c p ss true some h refl (λ fault is. absurd (cc))

-- where one does
pub begins-new : (answer : Verdict) (m : Marks) (c : Purpose) (p : List ℕ) (ss : List (List Entry)) (fault : NetworkFault) → has_no ss ≡ false → Becomes answer m c p (newest ss)
    → answer ≡ verdicts.BeginsAnew fault → with_next c p ss ≡ (first_entry c p ∷ []) ∷ ss
begins-new answer m c p [] fault some h is = absurd (cc)
begins-new answer m c p (past ∷ earlier) fault some h is = by_verdict (verdict c p past) refl h where
  by_verdict : (v : Verdict') → verdict c p past ≡ v → BecomesOf answer v (λ j. Keeps m c (record { packet = p; judgement = j } ∷ past))
      → with_next c p (past ∷ earlier) ≡ (first_entry c p ∷ []) ∷ (past ∷ earlier)
  by_verdict (Is Judged) v h = let no : verdicts.Judged ≡ verdicts.BeginsAnew fault = sym h.0 ∙ is in absurd (cc)
  by_verdict (Is Passed) v h = let no : verdicts.Unjudged ≡ verdicts.BeginsAnew fault = sym h.0 ∙ is in absurd (cc)
  by_verdict (Is Damaged) v h = let no : verdicts.Unjudged ≡ verdicts.BeginsAnew fault = sym h.0 ∙ is in absurd (cc)
  by_verdict (Is Jumped) v h = let no : verdicts.Unjudged ≡ verdicts.BeginsAnew fault = sym h.0 ∙ is in absurd (cc)
  by_verdict (BeginsNew other) v h = ap (λ w. joined c w p past earlier) v

-- the first packet of a stretch
pub first-of : (answer : Verdict) (m : Marks) (c : Purpose) (p : List ℕ) → Becomes answer m c p []
    → (is_judged (as_first (verdict c p [])) ≡ is_judged_by answer) × Keeps m c (first_entry c p ∷ [])
first-of answer m c p h = by_verdict (verdict c p []) (λ j. Keeps m c (record { packet = p; judgement = j } ∷ [])) h where
  by_verdict : (v : Verdict') (keeps : Judgement → Type 0) → BecomesOf answer v keeps → (is_judged (as_first v) ≡ is_judged_by answer) × keeps (as_first v)
  by_verdict (Is Judged) keeps b = (sym (ap is_judged_by b.0), b.1)
  by_verdict (Is Passed) keeps b = (sym (ap is_judged_by b.0), b.1)
  by_verdict (Is Damaged) keeps b = (sym (ap is_judged_by b.0), b.1)
  by_verdict (Is Jumped) keeps b = (sym (ap is_judged_by b.0), b.1)
  by_verdict (BeginsNew fault) keeps b = (sym (ap is_judged_by b.0), b.1)

-- the count of those that began behind another
pub one-behind : (n : ℕ) (ss : List (List Entry)) → has_no ss ≡ false → n ≡ capped (behind_first ss) → capped (n + 1) ≡ capped (behind_first ([] ∷ ss))
one-behind n [] some e = absurd (cc)
one-behind n (past ∷ earlier) some e = grind arith

-- ---- a packet is settled

none-before : (ss : List (List Entry)) → has_no ss ≡ true → ss ≡ []
none-before [] h = refl
none-before (past ∷ earlier) h = absurd (cc)

-- before the first packet a stretch begins
pub first-behind : (s : AirService) (a : Airing) → AirStandsFor s a → has_no a.stretches ≡ true → BeginsBehind s a.config []
first-behind s a h none =
    let e = none-before a.stretches none in
    record {
      config = h.config;
      marks = subst (λ w. Keeps s.marks (writing_cues a.config) (newest w)) e h.marks;
      followed = subst (λ w. HasFollowed s.service a.config (as_read (newest w))) e h.followed;
      begun = subst (λ w. s.begun ≡ capped (behind_first w)) e h.begun;
    }

by-shares : (b : Bool) (p : List ℕ) (a : Airing) → a.stretches ≡ [] → a.shares ≡ b → next_of p a ≡ anew_with p a.config []
by-shares true p a e k = simp (e, k) refl
by-shares false p a e k = simp (e, k) refl

pub next-first : (p : List ℕ) (a : Airing) → has_no a.stretches ≡ true → next_of p a ≡ anew_with p a.config []
next-first p a none = by-shares a.shares p a (none-before a.stretches none) refl

pub next-shares : (p : List ℕ) (a : Airing) → a.shares ≡ true → next_of p a ≡ anew_with p a.config a.stretches
next-shares p a k = simp k refl

pub next-begins : (p : List ℕ) (a : Airing) → a.shares ≡ false → with_next (writing_cues a.config) p a.stretches ≡ (first_entry (writing_cues a.config) p ∷ []) ∷ a.stretches
    → next_of p a ≡ anew_with p a.config a.stretches
next-begins p a k e = simp k (ap (λ w. record { config = a.config; stretches = w; shares = false }) e)

pub next-goes : (p : List ℕ) (a : Airing) → a.shares ≡ false → (next_of p a).stretches ≡ with_next (writing_cues a.config) p a.stretches
next-goes p a k = simp k refl

same-behind : (ss tt' : List (List Entry)) (past e : List Entry) (earlier : List (List Entry)) → ss ≡ past ∷ earlier → tt' ≡ e ∷ earlier → behind_first ss ≡ behind_first tt'
same-behind ss tt' past e earlier f g = ap behind_first f ∙ sym (ap behind_first g)

-- the stretch goes on
pub goes-settled : (s now : AirService) (p : List ℕ) (a : Airing) (b : Bool) → AirStandsFor s a → s.is_empty ≡ false → s.shares ≡ false
    → now.service ≡ s.service → now.is_empty ≡ s.is_empty → now.shares ≡ s.shares → now.begun ≡ s.begun → now.is_unjudged ≡ not b
    → GoesOn now.marks (writing_cues a.config) p a.stretches b → IsSettled now p (next_of p a)
goes-settled s now p a b h some off service empty shares begun unjudged g =
    let k : a.shares ≡ false = sym h.shares ∙ off in
    let is = next-goes p a k ∙ g.after in
    record {
      j = g.j;
      past = g.past;
      earlier = g.earlier;
      parts = is;
      config = ap (λ x. x.config) service ∙ h.config;
      marks = g.keeps;
      followed = subst (λ x. HasFollowed x a.config (as_read g.past)) (sym service) (subst (λ w. HasFollowed s.service a.config (as_read (newest w))) g.before h.followed);
      unjudged = unjudged ∙ ap not (sym g.judged);
      is_empty = empty ∙ some;
      shares = shares ∙ off;
      begun = begun ∙ h.begun ∙ ap capped (same-behind a.stretches (next_of p a).stretches g.past (record { packet = p; judgement = g.j } ∷ g.past) g.earlier g.before is);
    }

-- ---- a packet was passed on, as it is read

pub stands-behind : (old new : AirService) (p q : List ℕ) (a : Airing) (h : IsSettled old p a) → q ≡ (if is_judged h.j then p else marked p)
    → new.service.config ≡ old.service.config → new.marks ≡ old.marks → new.is_empty ≡ old.is_empty → new.shares ≡ old.shares → new.begun ≡ old.begun
    → InjectorStandsFor new.service.injector a.config (PacketStep q ∷ h.followed.steps) → AirStandsFor new a
stands-behind old new p q a h is config marks empty shares begun i =
    let e : List Entry = record { packet = p; judgement = h.j } ∷ h.past in
    let now : newest a.stretches ≡ e = ap newest h.parts in
    record {
      config = config ∙ h.config;
      marks = subst (λ m. Keeps m (writing_cues a.config) (newest a.stretches)) (sym marks) (subst (Keeps old.marks (writing_cues a.config)) (sym now) h.marks);
      followed = record {
        steps = PacketStep q ∷ h.followed.steps;
        injector = i;
        packets = ap (λ l. q ∷ l) h.followed.packets ∙ ap (λ r. r ∷ as_read h.past) is ∙ sym (ap as_read now);
      };
      is_empty = empty ∙ h.is_empty ∙ sym (ap has_no h.parts);
      shares = shares ∙ h.shares;
      begun = begun ∙ h.begun;
      quiet = i.news;
    }

pub is-marked : (s : AirService) (p : List ℕ) (a : Airing) (h : IsSettled s p a) → s.is_unjudged ≡ true → marked p ≡ (if is_judged h.j then p else marked p)
is-marked s p a h y = by_judged (is_judged h.j) (sym h.unjudged ∙ y) where
  by_judged : (b : Bool) → not b ≡ true → marked p ≡ (if b then p else marked p)
  by_judged true n = absurd (cc)
  by_judged false n = refl

pub is-itself : (s : AirService) (p : List ℕ) (a : Airing) (h : IsSettled s p a) → s.is_unjudged ≡ false → p ≡ (if is_judged h.j then p else marked p)
is-itself s p a h y = by_judged (is_judged h.j) (sym h.unjudged ∙ y) where
  by_judged : (b : Bool) → not b ≡ false → p ≡ (if b then p else marked p)
  by_judged true n = refl
  by_judged false n = absurd (cc)

module _ (s : AirService) (p : List ℕ) (a : Airing) (h : IsSettled s p a) where
  pub before-is : packets_in h.followed.steps ≡ as_read (before_last (newest a.stretches))
  before-is = h.followed.packets ∙ sym (ap (λ w. as_read (before_last (newest w))) h.parts)

  pub behind-is : s.is_unjudged ≡ false → p ∷ packets_in h.followed.steps ≡ as_read (newest a.stretches)
  behind-is y = ap (λ l. p ∷ l) h.followed.packets ∙ ap (λ r. r ∷ as_read h.past) (is-itself s p a h y) ∙ sym (ap (λ w. as_read (newest w)) h.parts)

  pub owns-is : (b : Bool) → b ≡ on_one (known_pids (Some a.config.program) (packets_in h.followed.steps)) p → b ≡ owns p a
  owns-is b e = e ∙ ap (λ l. on_one (known_pids (Some a.config.program) l) p) before-is

  pub known-is : (known : ℕ) → known ≡ length (known_pids (Some a.config.program) (packets_in h.followed.steps)) → known ≡ length (known_before a)
  known-is known e = e ∙ ap (λ l. length (known_pids (Some a.config.program) l)) before-is

  pub leaves-is : s.is_unjudged ≡ leaves a
  leaves-is = h.unjudged ∙ sym (ap (λ w. is_last_left (newest w)) h.parts)

pub learns-is : (a : Airing) (known now : ℕ) (steps : List Step) → known ≡ length (known_before a) → now ≡ length (known_pids (Some a.config.program) (packets_in steps))
    → packets_in steps ≡ as_read (newest a.stretches) → not (now == known) ≡ learns a
learns-is a known now steps k f is =
    let n : now ≡ length (known_of a) = f ∙ ap (λ l. length (known_pids (Some a.config.program) l)) is in
    ap (λ x. not (x == known)) n ∙ ap (λ x. not (length (known_of a) == x)) k

-- with a packet of no table no PID more is known
pub learns-none : (a : Airing) (p : List ℕ) (steps : List Step) → IsElsewhere (writing_cues a.config) p (packets_in steps) → packets_in steps ≡ as_read (before_last (newest a.stretches))
    → p ∷ packets_in steps ≡ as_read (newest a.stretches) → false ≡ learns a
learns-none a p steps e before now =
    let t : ServiceTerms = record { config = a.config; filed = λ k. None } in
    let pids : List (List ℕ) → List ℕ = known_pids (Some a.config.program) in
    let n = length (pids (packets_in steps)) in
    sym (ap not (eq-eqb n n refl)) ∙ learns-is a n n (PacketStep p ∷ steps) (ap (λ l. length (pids l)) before) (ap length (sym (elsewhere-same t p (packets_in steps) e))) now
