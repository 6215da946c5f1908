-- One event's cues before a packet.
use Rattle.std.proofs.Common.{◌≡◌, Bool, true, false, not, ◌&&◌, ◌⊎◌, inl, inr, refl, sym, ap, ◌∙◌, subst, List, [], ◌∷◌, ◌++◌, Option, arith}
use Rattle.std.specs.Prelude.{ℤ, pos, ◌+ℤ◌, ◌<ℤ◌, ◌≤ℤ◌, int_lt, is_some, if◌then◌else◌}
use Rattle.std.proofs.lemmas.Int.{ints}
use Rattle.std.proofs.lemmas.Bool.{and_from, and_parts, not-true}
use Rattle.ts_packet.proofs.Cases.{by_test}
use Rattle.pes_time.proofs.IntLemmas.{lt-test, ge-test, lt-is}
use Rattle.ts_packet.specs.Membership.{In}
use Rattle.cue_laws.specs.Events.{Turn, LineEvent, Started, Cancelled, Ended, before, stands, is_of, can_start, fresh, can_cancel, cancel_by, can_end, end_by}
use Rattle.cue_laws.specs.Cueing.{Known, is_cancel_new, or_else, is_news, current, limit, is_due, is_second, end_on, cancel_on, repeat_on, told_on}
use Rattle.cue_laws.proofs.Settling.{can_end-parts}
use Rattle.cue_laws.proofs.Lists.{Distinct}
use Rattle.cue_laws.proofs.Orders.{Orderly, orderly-clear, orderly-tail, before-more, is_of-is, Clear, or-left, or-right}
use Rattle.cue_laws.proofs.Below.{start_taken}
use Rattle.cue_laws.proofs.Lost.{equal_events}
use Rattle.cue_laws.proofs.Fair.{IsKnown}
use Rattle.cue_laws.proofs.Block.{Goes, goes-to, start_goes, again_goes, Others, end-off, cancel_middle, cancel_none, end_middle, In-right}

-- what lies about an event in the list of what was told: `front` newer, `back` older, and the older events themselves
pub record About (h : Option ℤ) (e : LineEvent) (older front back : List LineEvent) : Type 0 where
  pub clock : is_some h ≡ true
  pub order : Orderly h (e ∷ older)
  pub newer : stands h e ≡ true → Others h e.id front
  pub others : stands h e ≡ true → Others h e.id back
  pub part : (y : LineEvent) → In y back → In y older
  pub distinct : Distinct back

pub or_else-false : (a b : Bool) → or_else a b ≡ false → (a ≡ false) × (b ≡ false)
or_else-false true b is = absurd (let bad : true ≡ false = is in cc)
or_else-false false b is = (refl, is)

-- where no cancel is new, and_parts or neither are cancelled
pub same_flag : (a b : Bool) → (a && not b) ≡ false → (b ≡ true → a ≡ true) → b ≡ a
same_flag true true is k = refl
same_flag true false is k = absurd (let bad : true ≡ false = is in cc)
same_flag false true is k = let bad = k refl in cc
same_flag false false is k = refl

if_goes : (h : Option ℤ) (b : Bool) (s : Turn) (rest : List Turn) (es : List LineEvent) → (b ≡ true → Goes h (s ∷ rest) es) → (b ≡ false → Goes h rest es) → Goes h (if b then s ∷ rest else rest) es
if_goes h true s rest es a z = a refl
if_goes h false s rest es a z = z refl

limit-cancelled : (e : LineEvent) → e.cancelled ≡ true → (limit e ≡ e.start) × (current e ≡ Cancelled e.id)
limit-cancelled e c = (
  ap (λ b. if b then e.start else (if int_lt e.end e.asked then e.end else e.start)) c,
  ap (λ b. if b then Cancelled e.id else (if int_lt e.end e.asked then Ended e.id e.end else Started e.id e.start e.asked)) c,
)

limit-ended : (e : LineEvent) → e.cancelled ≡ false → int_lt e.end e.asked ≡ true → (limit e ≡ e.end) × (current e ≡ Ended e.id e.end)
limit-ended e c s = (
  ap (λ b. if b then e.start else (if int_lt e.end e.asked then e.end else e.start)) c ∙ ap (λ b. if b then e.end else e.start) s,
  ap (λ b. if b then Cancelled e.id else (if int_lt e.end e.asked then Ended e.id e.end else Started e.id e.start e.asked)) c ∙ ap (λ b. if b then Ended e.id e.end else Started e.id e.start e.asked) s,
)

limit-whole : (e : LineEvent) → e.cancelled ≡ false → int_lt e.end e.asked ≡ false → (limit e ≡ e.start) × (current e ≡ Started e.id e.start e.asked)
limit-whole e c s = (
  ap (λ b. if b then e.start else (if int_lt e.end e.asked then e.end else e.start)) c ∙ ap (λ b. if b then e.end else e.start) s,
  ap (λ b. if b then Cancelled e.id else (if int_lt e.end e.asked then Ended e.id e.end else Started e.id e.start e.asked)) c ∙ ap (λ b. if b then Ended e.id e.end else Started e.id e.start e.asked) s,
)

module _ (h later : Option ℤ) (e : LineEvent) (older front back : List LineEvent) (about : About h e older front back) where
  some_here : e.start <ℤ e.end
  some_here = about.order.some e (inl refl)

  whole_here : e.end ≤ℤ e.asked
  whole_here = about.order.whole e (inl refl)

  stands_start : before h e.start ≡ true → stands h e ≡ true
  stands_start b = let s = some_here in before-more h e.start (e.end +ℤ pos 900000) b (omega (arith, ints))

  stands_end : before h e.end ≡ true → stands h e ≡ true
  stands_end b = before-more h e.end (e.end +ℤ pos 900000) b (omega (arith, ints))

  -- a repeat of an event of which only the cancel was told
  pub repeat_never : (last : Option ℤ) (rest : List Turn) → e.cancelled ≡ true → Goes h rest (front ++ back) → Goes h (repeat_on h later e last rest) (front ++ back)
  repeat_never last rest c g =
      let l = limit-cancelled e c in
      if_goes h (is_due h later e last) (current e) rest (front ++ back)
      (λ due.
      let b : before h e.start ≡ true = ap (before h) (sym l.0) ∙ (and_parts (before h (limit e)) (is_second last later) due).0 in
      let s = stands_start b in
      subst (λ x. Goes h (x ∷ rest) (front ++ back)) (sym l.1) (cancel_none h e front back (about.newer s) (about.others s) rest g))
      (λ due. g)

  -- a repeat of one that is known as it is
  repeat_known : (last : Option ℤ) (rest : List Turn) → Goes h rest (front ++ (e ∷ back)) → Goes h (repeat_on h later e last rest) (front ++ (e ∷ back))
  repeat_known last rest g =
      if_goes h (is_due h later e last) (current e) rest (front ++ (e ∷ back))
      (λ due. let b = (and_parts (before h (limit e)) (is_second last later) due).0 in
      by_test e.cancelled
      (λ c. let l = limit-cancelled e c in
      let s = stands_start (ap (before h) (sym l.0) ∙ b) in
      let same : cancel_by h e.id e ≡ e = ap (λ v. record { id = e.id; start = e.start; asked = e.asked; end = e.end; cancelled = v }) (or-left e.cancelled (can_cancel h e.id e) c ∙ sym c) in
      subst (λ x. Goes h (x ∷ rest) (front ++ (e ∷ back))) (sym l.1) (cancel_middle h e front back (about.newer s) (about.others s) rest e e same g))
      (λ c. by_test (int_lt e.end e.asked)
      (λ t. let l = limit-ended e c t in
      let s = stands_end (ap (before h) (sym l.0) ∙ b) in
      let off : can_end h e.id e.end e ≡ false = by_test (can_end h e.id e.end e) (λ k. let x = (can_end-parts h e.id e.end e k).earlier in absurd (omega (arith, ints, x))) (λ k. k) in
      subst (λ x. Goes h (x ∷ rest) (front ++ (e ∷ back))) (sym l.1) (end_middle h e front back (about.newer s) (about.others s) rest e.end e e c (end-off h e.id e.end e off) g))
      (λ t. let l = limit-whole e c t in
      let ahead : before h e.start ≡ true = ap (before h) (sym l.0) ∙ b in
      let w = whole_here in let x = ge-test e.end e.asked t in
      let same : e.end ≡ e.asked = omega (arith, ints, w, x) in
      subst (λ x. Goes h (x ∷ rest) (front ++ (e ∷ back))) (sym l.1)
      (again_goes h e.id e.start e.asked rest (front ++ (e ∷ back)) e about.clock ahead (In-right e front (e ∷ back) (inl refl))
      (record { same_id = refl; same_start = refl; same_asked = refl; unshortened = same; uncancelled = c }) (stands_start ahead) g))))
      (λ due. g)

  -- the end that is new
  end_known : (rest : List Turn) (t : LineEvent) → IsKnown h e t → Goes h rest (front ++ (t ∷ back))
      → Goes h (end_on e t.end rest) (front ++ (record { id = t.id; start = t.start; asked = t.asked; end = e.end; cancelled = t.cancelled } ∷ back))
  end_known rest t k g =
      if_goes h (int_lt e.end t.end) (Ended e.id e.end) rest _
      (λ l.
      let new = k.end_new (lt-test e.end t.end l) in
      let s = stands_end new.0 in
      let st : stands h t ≡ true = (let x = k.earlier in before-more h e.end (t.end +ℤ pos 900000) new.0 (omega (arith, ints, x))) in
      let of : is_of h e.id t ≡ true = is_of-is h e.id t st k.id in
      let past : int_lt t.start e.end ≡ true = (let x = some_here in let y = k.start in lt-is t.start e.end (omega (arith, ints, x, y))) in
      let can : can_end h e.id e.end t ≡ true = and_from _ _ of (and_from _ _ (ap not new.1) (and_from _ _ past (and_from _ _ new.0 l))) in
      end_middle h e front back (about.newer s) (about.others s) rest e.end t _ new.1
      (ap (λ b. record { id = t.id; start = t.start; asked = t.asked; end = (if b then e.end else t.end); cancelled = t.cancelled }) can) g)
      (λ l.
      let x = ge-test e.end t.end l in let y = k.earlier in
      let same : t.end ≡ e.end = omega (arith, ints, x, y) in
      goes-to h rest _ _ (ap (λ v. front ++ (record { id = t.id; start = t.start; asked = t.asked; end = v; cancelled = t.cancelled } ∷ back)) same) g)

  -- then the cancel that is new
  cancel_known : (rest : List Turn) (t : LineEvent) → IsKnown h e t
      → Goes h rest (front ++ (record { id = t.id; start = t.start; asked = t.asked; end = e.end; cancelled = t.cancelled } ∷ back))
      → Goes h (cancel_on e t rest) (front ++ (e ∷ back))
  cancel_known rest t k g =
      let u : LineEvent = record { id = t.id; start = t.start; asked = t.asked; end = e.end; cancelled = t.cancelled } in
      if_goes h (is_cancel_new e t) (Cancelled e.id) rest (front ++ (e ∷ back))
      (λ n.
      let p = and_parts e.cancelled (not t.cancelled) n in
      let ahead = k.cancel_new p.0 (not-true t.cancelled p.1) in
      let s = stands_start ahead in
      let can : can_cancel h e.id u ≡ true = and_from _ _ (is_of-is h e.id u s k.id) (ap (before h) k.start ∙ ahead) in
      let same : cancel_by h e.id u ≡ e = equal_events (cancel_by h e.id u) e k.id k.start k.asked refl (or-right u.cancelled (can_cancel h e.id u) can ∙ sym p.0) in
      cancel_middle h e front back (about.newer s) (about.others s) rest u e same g)
      (λ n. goes-to h rest _ _ (ap (λ z. front ++ (z ∷ back)) (equal_events u e k.id k.start k.asked refl (same_flag e.cancelled t.cancelled n k.cancelled))) g)

  known_as_it_is : (t : LineEvent) → IsKnown h e t → is_news e t ≡ false → t ≡ e
  known_as_it_is t k n =
      let p = or_else-false (int_lt e.end t.end) (is_cancel_new e t) n in
      let x = ge-test e.end t.end p.0 in let y = k.earlier in
      equal_events t e k.id k.start k.asked (omega (arith, ints, x, y)) (same_flag e.cancelled t.cancelled p.1 k.cancelled)

  pub tell_known : (last : Option ℤ) (rest : List Turn) (t : LineEvent) → IsKnown h e t → Goes h rest (front ++ (t ∷ back)) → Goes h (told_on h later e last (Known t) rest) (front ++ (e ∷ back))
  tell_known last rest t k g =
      by_test (is_news e t)
      (λ n. simp n (cancel_known (end_on e t.end rest) t k (end_known rest t k g)))
      (λ n. simp n (repeat_known last rest (goes-to h rest _ _ (ap (λ z. front ++ (z ∷ back)) (known_as_it_is t k n)) g)))

  -- the first cue: nothing was told of newer ones
  pub tell_start : (rest : List Turn) → front ≡ [] → e.cancelled ≡ false → Clear h e.id e.start e.asked older → Goes h rest (front ++ back)
      → Goes h (end_on e e.asked (Started e.id e.start e.asked ∷ rest)) (front ++ (e ∷ back))
  tell_start rest none c clear g =
      subst (λ f. Goes h (end_on e e.asked (Started e.id e.start e.asked ∷ rest)) (f ++ (e ∷ back))) (sym none)
      (if_goes h (int_lt e.end e.asked) (Ended e.id e.end) (Started e.id e.start e.asked ∷ rest) (e ∷ back)
      (λ l.
      let s = stands_start clear.ahead in
      let w = some_here in let v = clear.some in
      let st : stands h asked_for ≡ true = before-more h e.start (e.asked +ℤ pos 900000) clear.ahead (omega (arith, ints, v)) in
      let ahead : before h e.end ≡ true = before-more h e.start e.end clear.ahead (omega (arith, ints, w)) in
      let can : can_end h e.id e.end asked_for ≡ true =
      and_from _ _ (is_of-is h e.id asked_for st refl) (and_from _ _ (lt-is e.start e.end w) (and_from _ _ ahead l)) in
      let same : end_by h e.id e.end asked_for ≡ e =
      ap (λ b. record { id = e.id; start = e.start; asked = e.asked; end = (if b then e.end else e.asked); cancelled = false }) can
      ∙ ap (λ b. record { id = e.id; start = e.start; asked = e.asked; end = e.end; cancelled = b }) (sym c) in
      end_middle h e [] back (λ x i. absurd i) (about.others s) (Started e.id e.start e.asked ∷ rest) e.end asked_for e refl same started)
      (λ l.
      let x = ge-test e.end e.asked l in let y = whole_here in
      goes-to h (Started e.id e.start e.asked ∷ rest) (asked_for ∷ back) (e ∷ back)
      (ap (λ z. z ∷ back) (equal_events asked_for e refl refl refl (omega (arith, ints, x, y)) (sym c))) started))
    where
      asked_for : LineEvent
      asked_for = fresh e.id e.start e.asked

      bare : Goes h rest back
      bare = goes-to h rest (front ++ back) back (ap (λ f. f ++ back) none) g

      free : (a : LineEvent) → In a back → a.start ≡ e.start → ⊥
      free a i is = split (clear.clear a (about.part a i))
        where
          split : (e.asked ≤ℤ a.start) ⊎ (a.end ≤ℤ e.start) → ⊥
          split (inl l) = let s = clear.some in omega (arith, ints, l, s, is)
          split (inr l) = let s = about.order.some a (inr (about.part a i)) in omega (arith, ints, l, s, is)

      can : can_start h e.id e.start e.asked back ≡ true
      can = start_taken h e.id e.start e.asked back (fresh e.id e.start e.asked ∷ older) (fresh e.id e.start e.asked)
          (orderly-clear h e.id e.start e.asked older clear (orderly-tail h e older about.order))
          (record { clock = clear.clock; ahead = clear.ahead; there = inl refl; repeats = record { same_id = refl; same_start = refl; same_asked = refl; unshortened = refl; uncancelled = refl } })
          (record { part = λ a i. (a, inr (about.part a i), record { id = refl; start = refl; asked = refl; end = refl; cancelled = λ c. c }); distinct = about.distinct })
          free

      started : Goes h (Started e.id e.start e.asked ∷ rest) (fresh e.id e.start e.asked ∷ back)
      started = start_goes h e.id e.start e.asked rest back can bare

  pub tell_cancelled : (rest : List Turn) → Clear h e.id e.start e.asked older → Goes h rest (front ++ back) → Goes h (Cancelled e.id ∷ rest) (front ++ back)
  tell_cancelled rest clear g = let s = stands_start clear.ahead in cancel_none h e front back (about.newer s) (about.others s) rest g
