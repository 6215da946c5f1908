-- A sink that feeds a switch: a packet is taken, or not; and what an injector before it learns.
use Rattle.std.specs.Prelude.{IsSomeAnd, map, if◌then◌else◌}
use Rattle.std.proofs.Common.{◌≡◌, ℕ, ◌==◌, List, [], ◌∷◌, ◌++◌, length, take, drop, Bool, true, false, Option, None, Some, Err, refl, sym, ap, subst, ◌∙◌, append_assoc, unwrap_or}
use Rattle.std.proofs.Math.Seq.{take-append_seam, drop-append_seam}
use Rattle.std.proofs.Math.ListN.{length-map}
use Rattle.std.proofs.lemmas.List.{append-nil, map-append}
use Rattle.ts_packet.specs.Runs.{onto}
use Rattle.ts_packet.specs.declared.sink.PutFault.{PutFault}
use Rattle.ts_packet.specs.declared.sink.PutFault.TheVariants as put_faults
use Rattle.wire_fields.specs.Numbers.{AreBytes}
use Rattle.psi_tables.specs.declared.config.Config.{Config}
use Rattle.psi_tables.specs.declared.network.NetworkFault.{NetworkFault}
use Rattle.psi_tables.specs.declared.network.FeedFault.{FeedFault}
use Rattle.psi_tables.specs.declared.network.FeedFault.TheVariants.{Network, Sink, Failed}
use Rattle.outgoing_packets.proofs.NumberLemmas.{front-moved}
use Rattle.program_follower.specs.Faults.{network_fault}
use Rattle.program_follower.specs.Purposes.{reading_cues, writing_cues}
use Rattle.cued_laws.proofs.CuedLemmas.{none_sent_is_at_fault}
use Rattle.injector.specs.Steps.{Step, packets_in, cued, sent_at}
use Rattle.injector.specs.Injecting as injecting
use Rattle.ad_library.specs.Advertisements.{Advertisement}
use Rattle.splice_plans.specs.Adverts.{setting_of}
use Rattle.splice_plans.specs.Switching.{Setting, switched_at_packet}
use Rattle.splice_plans.specs.Stepping.{Journey, journey_at, puts_next}
use Rattle.known_laws.proofs.SteppingLemmas.{steps_are_of_moves}
use Rattle.splice_switch.specs.declared.switch.Switch.{Switch}
use Rattle.splice_switch.specs.Standing.{SwitchStandsAt, FeedFails, FeedFailsAt}
use Rattle.splice_switch.proofs.JourneyLemmas.{fails-next}
use Rattle.chain_engine.specs.Passing.{switched_over, IsSoundNetwork, PassFails}
use Rattle.chain_engine.specs.Airing.{Aired, judged}
use Rattle.chain_engine.specs.Switched.{journey_of, switched_for, aired_onto, aired_over, journey-first}
use Rattle.chain_engine.specs.Chained.{judged-onto}
use Rattle.chain_engine.specs.Nested.{coded, fed_behind, FeedingHolds, FeedingFails}
use Rattle.chain_engine.proofs.PassingLemmas.{over-fails, one_more}

-- ---- packets in a row

onto-one : (past l : List Aired) (a : Aired) → aired_onto past (l ++ a ∷ []) ≡ a ∷ aired_onto past l
onto-one past [] a = refl
onto-one past (b ∷ l) a = onto-one (b ∷ past) l a

over-one : (k : Setting) (past l : List Aired) (a : Aired) → aired_over k past (l ++ a ∷ []) ≡ aired_over k past l ++ switched_for k (journey_of k (aired_onto past l)) a
over-one k past [] a = append-nil (switched_for k (journey_of k past) a)
over-one k past (b ∷ l) a =
    ap (λ q. switched_for k (journey_of k past) b ++ q) (over-one k (b ∷ past) l a)
    ∙ sym (append_assoc (switched_for k (journey_of k past) b) (aired_over k (b ∷ past) l) (switched_for k (journey_of k (aired_onto (b ∷ past) l)) a))

-- where all are judged
pub judged-over : (k : Setting) (past fed : List (List ℕ)) → aired_over k (map judged past) (map judged fed) ≡ switched_over k past fed
judged-over k past [] = refl
judged-over k past (p ∷ fed) =
    let rest = aired_over k (map judged (p ∷ past)) (map judged fed) in
    ap (λ x. puts_next k x p ++ rest) (journey-first k past) ∙ ap (λ l. l ++ rest) ((steps_are_of_moves k past).puts p) ∙ ap (λ l. switched_at_packet k p past ++ l) (judged-over k (p ∷ past) fed)

-- ---- the list tells all of its parts

abbrev decoded : List ℕ → Aired
decoded [] = judged []
decoded (b ∷ p) = record { packet = p; is_judged = b == 1 }

told_judged : (b : Bool) → ((if b then 1 else 0) == 1) ≡ b
told_judged true = refl
told_judged false = refl

decodes : (past : List Aired) → map decoded (map coded past) ≡ past
decodes [] = refl
decodes (a ∷ past) =
    ap (λ (b : Bool). let one : Aired = record { packet = a.packet; is_judged = b } in one ∷ map decoded (map coded past)) (told_judged a.is_judged) ∙ ap (λ l. a ∷ l) (decodes past)

abbrev mark_of : List Aired → List ℕ
mark_of past = map (λ a. 0) past

abbrev past_in : List (List ℕ) → List Aired
past_in [] = []
past_in (mark ∷ []) = []
past_in (mark ∷ second ∷ ps) = map decoded (take (length mark) ps)

abbrev before_in : List (List ℕ) → List (List ℕ)
before_in [] = []
before_in (mark ∷ []) = []
before_in (mark ∷ second ∷ ps) = take (length second) (drop (length mark) ps)

abbrev fed_in : List (List ℕ) → List (List ℕ)
fed_in [] = []
fed_in (mark ∷ []) = []
fed_in (mark ∷ second ∷ ps) = drop (length second) (drop (length mark) ps)

as_long : (past : List Aired) → length (mark_of past) ≡ length (map coded past)
as_long past = length-map past (λ a. 0) ∙ sym (length-map past coded)

tells_past : (past : List Aired) (before fed : List (List ℕ)) → past_in (fed_behind past before fed) ≡ past
tells_past past before fed =
    ap (λ n. map decoded (take n (map coded past ++ (before ++ fed)))) (as_long past) ∙ ap (map decoded) (take-append_seam (map coded past) (before ++ fed)) ∙ decodes past

behind : (past : List Aired) (before fed : List (List ℕ)) → drop (length (mark_of past)) (map coded past ++ (before ++ fed)) ≡ before ++ fed
behind past before fed = ap (λ n. drop n (map coded past ++ (before ++ fed))) (as_long past) ∙ drop-append_seam (map coded past) (before ++ fed)

tells_before : (past : List Aired) (before fed : List (List ℕ)) → before_in (fed_behind past before fed) ≡ before
tells_before past before fed =
    ap (take (length (map (λ (p : List ℕ). 0) before))) (behind past before fed) ∙ ap (λ n. take n (before ++ fed)) (length-map before (λ p. 0)) ∙ take-append_seam before fed

tells_fed : (past : List Aired) (before fed : List (List ℕ)) → fed_in (fed_behind past before fed) ≡ fed
tells_fed past before fed =
    ap (drop (length (map (λ (p : List ℕ). 0) before))) (behind past before fed) ∙ ap (λ n. drop n (before ++ fed)) (length-map before (λ p. 0)) ∙ drop-append_seam before fed

module _ (past : List Aired) (before fed : List (List ℕ)) (past' : List Aired) (before' fed' : List (List ℕ)) (e : fed_behind past before fed ≡ fed_behind past' before' fed') where
  same_past : past' ≡ past
  same_past = sym (tells_past past' before' fed') ∙ ap past_in (sym e) ∙ tells_past past before fed

  same_before : before' ≡ before
  same_before = sym (tells_before past' before' fed') ∙ ap before_in (sym e) ∙ tells_before past before fed

  same_fed : fed' ≡ fed
  same_fed = sym (tells_fed past' before' fed') ∙ ap fed_in (sym e) ∙ tells_fed past before fed

fed_more : (past : List Aired) (before fed more : List (List ℕ)) → fed_behind past before fed ++ more ≡ fed_behind past before (fed ++ more)
fed_more past before fed more =
    ap (λ (l : List (List ℕ)). map (λ (a : Aired). 0) past ∷ (map (λ (p : List ℕ). 0) before ∷ l))
    (append_assoc (map coded past) (before ++ fed) more ∙ ap (λ (l : List (List ℕ)). map coded past ++ l) (append_assoc before fed more))

module _ {K : Type 0} (holds : K → Option (List ℕ) → List (List ℕ) → Type 0) (c : Config) (filed : ℕ → Option Advertisement) (start : Option (List ℕ)) (as_fed : List ℕ → Aired) where
  abbrev k : Setting
  k = setting_of c filed

  -- ---- nothing is fed yet

  pub feeding_begins : (switch : Switch) (out : K) (past : List Aired) (before : List (List ℕ)) → SwitchStandsAt switch c filed (journey_of k past) → holds out start before
      → FeedingHolds holds as_fed switch c filed out start (fed_behind past before [])
  feeding_begins switch out past before stands h = record {
    past = past;
    before = before;
    fed = [];
    parts = refl;
    stands = stands;
    sent = subst (holds out start) (sym (append-nil before)) h;
  }

  -- ---- a packet is taken

  -- what the switch was fed so far, and what is out by it
  abbrev pub all_fed : (switch : Switch) (out : K) (ps : List (List ℕ)) → FeedingHolds holds as_fed switch c filed out start ps → List Aired
  all_fed switch out ps h = aired_onto h.past (map as_fed h.fed)

  abbrev pub all_sent : (switch : Switch) (out : K) (ps : List (List ℕ)) → FeedingHolds holds as_fed switch c filed out start ps → List (List ℕ)
  all_sent switch out ps h = h.before ++ aired_over k h.past (map as_fed h.fed)

  pub feeding_takes : (switch switch' : Switch) (out out' : K) (ps : List (List ℕ)) (p : List ℕ) → (h : FeedingHolds holds as_fed switch c filed out start ps)
      → SwitchStandsAt switch' c filed (journey_of k (as_fed p ∷ all_fed switch out ps h))
      → holds out' start (all_sent switch out ps h ++ switched_for k (journey_of k (all_fed switch out ps h)) (as_fed p))
      → FeedingHolds holds as_fed switch' c filed out' start (ps ++ p ∷ [])
  feeding_takes switch switch' out out' ps p h stands puts =
      let all = aired_over k h.past (map as_fed h.fed) in
      let one = switched_for k (journey_of k (all_fed switch out ps h)) (as_fed p) in
      let more = map-append as_fed h.fed (p ∷ []) in record {
        past = h.past;
        before = h.before;
        fed = h.fed ++ p ∷ [];
        parts = ap (λ (l : List (List ℕ)). l ++ p ∷ []) h.parts ∙ fed_more h.past h.before h.fed (p ∷ []);
        stands = subst (λ l. SwitchStandsAt switch' c filed (journey_of k l)) (sym (ap (aired_onto h.past) more ∙ onto-one h.past (map as_fed h.fed) (as_fed p))) stands;
        sent = subst (holds out' start) (append_assoc h.before all one ∙ ap (λ l. h.before ++ l) (sym (ap (aired_over k h.past) more ∙ over-one k h.past (map as_fed h.fed) (as_fed p)))) puts;
      }

  -- ---- an injector before it

  -- what it has sent was fed
  pub record WasFed (switch : Switch) (out : K) (past : List Aired) (before sent : List (List ℕ)) : Type 0 where
    pub stands : SwitchStandsAt switch c filed (journey_of k (aired_onto past (map as_fed sent)))
    pub is_out : holds out start (before ++ aired_over k past (map as_fed sent))

  pub fed_now : (switch : Switch) (out : K) (past : List Aired) (before sent : List (List ℕ)) → FeedingHolds holds as_fed switch c filed out start (fed_behind past before [] ++ sent)
      → WasFed switch out past before sent
  fed_now switch out past before sent h =
      let e = sym (fed_more past before [] sent) ∙ h.parts in
      let p = same_past past before sent h.past h.before h.fed e in
      let b = same_before past before sent h.past h.before h.fed e in
      let f = same_fed past before sent h.past h.before h.fed e in
      let one = subst (λ l. WasFed switch out h.past h.before l) f (record { stands = h.stands; is_out = h.sent }) in
      subst (λ l. WasFed switch out l before sent) p (subst (λ l. WasFed switch out h.past l sent) b one)

-- ---- a packet is not taken

module _ {K : Type 0} (holds : K → Option (List ℕ) → List (List ℕ) → Type 0) (c : Config) (filed : ℕ → Option Advertisement) (start : Option (List ℕ))
    (fails : K → Option (List ℕ) → List (List ℕ) → List ℕ → PutFault → Type 0) (switch : Switch) (out out' : K) (ps : List (List ℕ)) (p : List ℕ) (h : FeedingHolds holds judged switch c filed out start ps) where
  abbrev Refuses : FeedFault → Type 0
  Refuses fault = (qs : List (List ℕ)) (x : Journey) → holds out start qs → SwitchStandsAt switch c filed x → FeedFailsAt fault c filed p x (λ put q x. fails out' start (qs ++ put) q x)

  abbrev all_out : List (List ℕ)
  all_out = aired_over (setting_of c filed) h.past (map judged h.fed)

  abbrev come : Journey
  come = journey_of (setting_of c filed) (aired_onto h.past (map judged h.fed))

  why : (fault : FeedFault) → Refuses fault → FeedFailsAt fault c filed p come (λ put q x. fails out' start (h.before ++ (all_out ++ put)) q x)
  why (Network f) refuses = refuses (h.before ++ all_out) come h.sent h.stands
  why (Sink f) refuses =
      front-moved (puts_next (setting_of c filed) come p) (λ put q. fails out' start ((h.before ++ all_out) ++ put) q f) (λ put q. fails out' start (h.before ++ (all_out ++ put)) q f)
      (λ put q. subst (λ l. fails out' start l q f) (append_assoc h.before all_out put)) (refuses (h.before ++ all_out) come h.sent h.stands)
  why Failed refuses = absurd (refuses (h.before ++ all_out) come h.sent h.stands)

  pub feeding_refuses : (fault : FeedFault) → Refuses fault → FeedingFails fails (Some fault) c filed out' start ps p put_faults.Failed
  feeding_refuses fault refuses = record { past = h.past; before = h.before; fed = h.fed; parts = h.parts; failed = refl; why = why fault refuses }

  pub never_failed : Refuses Failed → ⊥
  never_failed refuses = refuses (h.before ++ all_out) come h.sent h.stands

module _ {K : Type 0} (c : Config) (filed : ℕ → Option Advertisement) (start : Option (List ℕ)) (fails : K → Option (List ℕ) → List (List ℕ) → List ℕ → PutFault → Type 0) (out : K)
    (before : List (List ℕ)) (p : List ℕ) (steps : List Step) where
  abbrev pub past : List (List ℕ)
  past = cued c steps

  abbrev IsWhy : FeedFault → List (List ℕ) → List ℕ → Type 0
  IsWhy x put q = FeedFails x c filed q (onto past put) (λ more r y. fails out start (before ++ (switched_over (setting_of c filed) past put ++ more)) r y)

  -- the same, by what the switch was fed
  abbrev IsWhyAt : FeedFault → List (List ℕ) → List ℕ → Type 0
  IsWhyAt x put q = FeedFailsAt x c filed q (journey_of (setting_of c filed) (aired_onto (map judged past) (map judged put)))
      (λ more r y. fails out start (before ++ (aired_over (setting_of c filed) (map judged past) (map judged put) ++ more)) r y)

  why_so : (x : FeedFault) (put : List (List ℕ)) (q : List ℕ) → IsWhyAt x put q → IsWhy x put q
  why_so x put q h =
      let k = setting_of c filed in
      let tell = (λ (l : List (List ℕ)) (more : List (List ℕ)) (r : List ℕ) (y : PutFault). fails out start (before ++ (l ++ more)) r y) in
      let all = aired_over k (map judged past) (map judged put) in
      let one = subst (λ l. FeedFailsAt x c filed q (journey_of k l) (tell all)) (judged-onto past put) h in
      let two = subst (λ j. FeedFailsAt x c filed q j (tell all)) (journey-first k (onto past put)) one in
      let three = subst (λ l. FeedFailsAt x c filed q (journey_at k (onto past put)) (tell l)) (judged-over k past put) two in
      fails-next c filed q (onto past put) x (tell (switched_over k past put)) three

  -- the kept fault tells of the packet that was sent
  why_now : (kept : Option FeedFault) (put : List (List ℕ)) (q : List ℕ) (fault : PutFault) → FeedingFails fails kept c filed out start (fed_behind (map judged past) before [] ++ put) q fault → IsSomeAnd kept (λ x. IsWhyAt x put q)
  why_now kept put q fault h =
      let e = sym (fed_more (map judged past) before [] put) ∙ h.parts in
      let same = same_past (map judged past) before put h.past h.before h.fed e in
      let same_b = same_before (map judged past) before put h.past h.before h.fed e in
      let same_f = same_fed (map judged past) before put h.past h.before h.fed e in
      let k = setting_of c filed in
      let one = subst (λ l. IsSomeAnd kept (λ x. FeedFailsAt x c filed q (journey_of k (aired_onto h.past (map judged l))) (λ more r y. fails out start (h.before ++ (aired_over k h.past (map judged l) ++ more)) r y))) same_f h.why in
      let two = subst (λ l. IsSomeAnd kept (λ x. FeedFailsAt x c filed q (journey_of k (aired_onto l (map judged put))) (λ more r y. fails out start (h.before ++ (aired_over k l (map judged put) ++ more)) r y))) same one in
      subst (λ l. IsSomeAnd kept (λ x. FeedFailsAt x c filed q (journey_of k (aired_onto (map judged past) (map judged put))) (λ more r y. fails out start (l ++ (aired_over k (map judged past) (map judged put) ++ more)) r y))) same_b two

  -- the switch finds no fault in what was sent
  none_found : (put : List (List ℕ)) (q : List ℕ) (left : List (List ℕ)) (f : NetworkFault) → IsSoundNetwork c (p ∷ packets_in steps)
      → sent_at c p steps ≡ put ++ q ∷ left → network_fault (reading_cues c) q (onto past put) ≡ Some f → ⊥
  none_found put q left f s all h =
      let none = none_sent_is_at_fault c p steps put left q s.sound s.bytes all in
      let e : None ≡ Some f = sym none ∙ h in
      cc

  abbrev Says : FeedFault → Type 0 → Type 0
  Says x untouched = PassFails x c filed p steps untouched (λ put q y. fails out start (before ++ put) q y)

  pub by_kept : (untouched : Type 0) (put : List (List ℕ)) (q : List ℕ) (left : List (List ℕ)) → IsSoundNetwork c (p ∷ packets_in steps) → sent_at c p steps ≡ put ++ q ∷ left → (x : FeedFault) → IsWhy x put q
      → Says x untouched
  by_kept untouched put q left s all (Network f) h = absurd (none_found put q left f s all h)
  by_kept untouched put q left s all (Sink f) h =
      over-fails (setting_of c filed) past (sent_at c p steps) (λ l r. fails out start (before ++ l) r f) (record { put = put; packet = q; left = left; all = all; fault = h })
  by_kept untouched put q left s all Failed h = absurd h

  kept_says : (untouched : Type 0) (kept : Option FeedFault) (fault : FeedFault) (put : List (List ℕ)) (q : List ℕ) (left : List (List ℕ)) → IsSoundNetwork c (p ∷ packets_in steps)
      → sent_at c p steps ≡ put ++ q ∷ left → IsSomeAnd kept (λ x. IsWhyAt x put q) → Says (unwrap_or kept fault) untouched
  kept_says untouched None fault put q left s all h = absurd h
  kept_says untouched (Some x) fault put q left s all h = by_kept untouched put q left s all x (why_so x put q h)

  -- the injector's fault is told, or the kept one in its place
  pub pass_stops : (untouched : Type 0) (kept : Option FeedFault) (fault : FeedFault) (r : FeedFault) → r ≡ unwrap_or kept fault
      → ((f : NetworkFault) → fault ≡ Network f → (kept ≡ None) × untouched)
      → IsSoundNetwork c (packets_in steps) → AreBytes p → injecting.network_answer (Err fault) ≡ network_fault (writing_cues c) p (packets_in steps)
      → injecting.FeedFails fault c p steps (λ put q x. FeedingFails fails kept c filed out start (fed_behind (map judged past) before [] ++ put) q x) → Says r untouched
  pass_stops untouched kept (Network f) r e keeps s b found h =
      let (none, same) = keeps f refl in
      subst (λ x. Says x untouched) (sym (e ∙ ap (λ k. unwrap_or k (Network f)) none)) (h, same)
  pass_stops untouched kept (Sink f) r e keeps s b found h =
      subst (λ x. Says x untouched) (sym e)
      (kept_says untouched kept (Sink f) h.put h.packet h.left (one_more c p (packets_in steps) s b (sym found)) h.all (why_now kept h.put h.packet f h.fault))
  pass_stops untouched kept Failed r e keeps s b found h = absurd h
