-- What an injector sends tells the line what the definitions say.
use Rattle.std.proofs.Common.{◌≡◌, ℕ, ◌^◌, ◌<◌, ◌≤◌, nat_lt, true, false, not, ◌&&◌, cond, refl, sym, ap, ◌∙◌, subst, List, [], ◌∷◌, arith}
use Rattle.std.specs.Prelude.{ℤ, pos, negsuc, ◌+ℤ◌, ◌≤ℤ◌, ◌<ℤ◌, int_lt, Option, None, Some}
use Rattle.std.proofs.lemmas.Int.{ints}
use Rattle.std.proofs.lemmas.Bool.Decides.{nat_tests}
use Rattle.std.proofs.lemmas.Bool.{and_parts}
use Rattle.ts_packet.proofs.Cases.{by_test}
use Rattle.pes_time.specs.Line.{ring_of, place, lift}
use Rattle.scte35_codec.specs.declared.cue_out.CueOut.{CueOut}
use Rattle.scte35_codec.specs.declared.cue_out.CueOut.TheVariants.{Start, Cancel, End}
use Rattle.event_table.specs.Standing.{Standing, end_of}
use Rattle.injector.specs.Senders.{Sender, is_none, is_ended, news, current, is_repeated, chosen, cues_by, cues_of, start_cue, end_cue, cancel_cue}
use Rattle.cue_laws.specs.Events.{Turn as LineTurn, Started, Cancelled, Ended, LineEvent, before}
use Rattle.cue_laws.specs.Cueing.{Sender as LineSender, Told, Untold, Known, Never, is_news, is_due, end_on, cancel_on, repeat_on, told_on}
use Rattle.cue_laws.specs.Cueing.{limit as line_limit, current as line_current}
use Rattle.cue_laws.proofs.Fair.{IsFair, IsKnown}
use Rattle.pes_time.proofs.IntLemmas.{lt-test}
use Rattle.path_laws.specs.Telling.{IsClose}
use Rattle.path_laws.specs.Path.{Item, Sent, Packet, high_on, sent_onto, line_of, line}
use Rattle.path_laws.proofs.Switch.{view}
use Rattle.path_laws.proofs.Reading.{placed, IsNear, AreNear}
use Rattle.path_laws.proofs.Senders.{IsHeld, IsSender, SameTold, ended-is, end-new-is, news-is, repeated-is}

ring-small : (t : ℤ) → ring_of t < 2 ^ 33
ring-small (pos n) = omega arith
ring-small (negsuc n) = omega arith

-- a program for each start
abbrev pub IsNamed : (ℤ → ℕ) → Option ℤ → CueOut → Type 0
IsNamed program h (Start event time duration told avail expected avails) = told ≡ program (place h time)
IsNamed program h (Cancel event) = Unit {0}
IsNamed program h (End event time) = Unit {0}

abbrev pub AreNamed : (ℤ → ℕ) → List Item → Type 0
AreNamed program [] = Unit {0}
AreNamed program (Sent cue ∷ past) = IsNamed program (high_on past) cue × AreNamed program past
AreNamed program (Packet h ∷ past) = AreNamed program past

-- what was sent tells this
pub record Tells (program : ℤ → ℕ) (h : Option ℤ) (items : List Item) (rest : List LineTurn) : Type 0 where
  pub clock : high_on items ≡ h
  pub line_is : line items ≡ rest
  pub near : AreNear items
  pub named : AreNamed program items

-- ---- one cue

module _ (program : ℤ → ℕ) (h : ℤ) (x : Sender) (held : IsHeld h x) (items : List Item) (rest : List LineTurn) (t : Tells program (Some h) items rest) where
  start-sent : x.event.program ≡ program x.event.start → int_lt h x.event.start ≡ true
      → Tells program (Some h) (Sent (start_cue x) ∷ items) (Started x.event.id x.event.start (x.event.start +ℤ pos x.event.asked) ∷ rest)
  start-sent name ahead =
      let close : IsClose h x.event.start = near h x.event.start (lt-test h x.event.start ahead) held.start in
      let at : lift h (ring_of x.event.start) ≡ x.event.start = placed h x.event.start close in
      record {
        clock = t.clock;
        line_is = ap (λ k. line_of k (start_cue x) ∷ line items) t.clock ∙ ap (λ m. Started x.event.id m (m +ℤ pos x.event.asked) ∷ line items) at
            ∙ ap (λ l. Started x.event.id x.event.start (x.event.start +ℤ pos x.event.asked) ∷ l) t.line_is;
        near = (
          (held.id, ring-small x.event.start, small x.event.asked held.most, held.program, held.count, held.avails),
          subst (λ k. IsNear k (start_cue x)) (sym t.clock) (record { near = subst (λ m. m ≤ℤ (h +ℤ pos (2 ^ 29))) (sym at) held.start; some = held.some; most = held.most }),
          t.near,
        );
        named = (subst (λ k. IsNamed program k (start_cue x)) (sym t.clock) (name ∙ ap program (sym at)), t.named);
      }
    where
      near : (k m : ℤ) → k <ℤ m → m ≤ℤ (k +ℤ pos (2 ^ 29)) → IsClose k m
      near k m a b = record { low = omega (arith, ints, a); top = omega (arith, ints, b) }

      small : (n : ℕ) → n ≤ 2 ^ 30 → n < 2 ^ 33
      small n l = omega arith

  end-sent : int_lt h (end_of x.event) ≡ true → is_ended x.event ≡ true → Tells program (Some h) (Sent (end_cue x) ∷ items) (Ended x.event.id (end_of x.event) ∷ rest)
  end-sent ahead ended =
      let reach : end_of x.event ≤ℤ (h +ℤ pos (2 ^ 29)) = held.end (less x.event.length x.event.asked ended) in
      let at : lift h (ring_of (end_of x.event)) ≡ end_of x.event = placed h (end_of x.event) (near h (end_of x.event) (lt-test h (end_of x.event) ahead) reach) in
      record {
        clock = t.clock;
        line_is = ap (λ k. line_of k (end_cue x) ∷ line items) t.clock ∙ ap (λ m. Ended x.event.id m ∷ line items) at ∙ ap (λ l. Ended x.event.id (end_of x.event) ∷ l) t.line_is;
        near = (
          (held.id, ring-small (end_of x.event)),
          subst (λ k. IsNear k (end_cue x)) (sym t.clock) (subst (λ m. m ≤ℤ (h +ℤ pos (2 ^ 29))) (sym at) reach),
          t.near,
        );
        named = (tt, t.named);
      }
    where
      near : (k m : ℤ) → k <ℤ m → m ≤ℤ (k +ℤ pos (2 ^ 29)) → IsClose k m
      near k m a b = record { low = omega (arith, ints, a); top = omega (arith, ints, b) }

      less : (a b : ℕ) → nat_lt a b ≡ true → a < b
      less a b is = grind (arith, nat_tests)

  cancel-sent : Tells program (Some h) (Sent (cancel_cue x) ∷ items) (Cancelled x.event.id ∷ rest)
  cancel-sent = record {
    clock = t.clock;
    line_is = ap (λ k. line_of k (cancel_cue x) ∷ line items) t.clock ∙ ap (λ l. Cancelled x.event.id ∷ l) t.line_is;
    near = (held.id, subst (λ k. IsNear k (cancel_cue x)) (sym t.clock) tt, t.near);
    named = (tt, t.named);
  }

-- ---- one event

abbrev sender : Standing → ℕ → ℕ → List ℕ → Option Standing → Option ℤ → Sender
sender e n m ids t l = record { event = e; avail_num = n; avails_expected = m; avails = ids; told = t; last = l }

limit-start : (e : Standing) → e.cancelled ≡ false → is_ended e ≡ false → line_limit (view e) ≡ e.start
limit-start e c d = let q = ended-is e ∙ d in simp (c, q) refl

limit-end : (e : Standing) → e.cancelled ≡ false → is_ended e ≡ true → line_limit (view e) ≡ end_of e
limit-end e c d = let q = ended-is e ∙ d in simp (c, q) refl

module _ (program : ℤ → ℕ) (h : ℤ) (later : Option ℤ) (items : List Item) (rest : List LineTurn) (t : Tells program (Some h) items rest) where
  current-sent : (x : Sender) → IsHeld h x → x.event.program ≡ program x.event.start → before (Some h) (line_limit (view x.event)) ≡ true
      → Tells program (Some h) (sent_onto items (cues_by x (current x.event))) (line_current (view x.event) ∷ rest)
  current-sent x held name ahead =
      by_test x.event.cancelled
      (λ c. simp c (cancel-sent program h x held items rest t))
      (λ c. by_test (is_ended x.event)
      (λ d. let q = ended-is x.event ∙ d in simp (c, d, q) (end-sent program h x held items rest t (ap (before (Some h)) (sym (limit-end x.event c d)) ∙ ahead) d))
      (λ d. let q = ended-is x.event ∙ d in simp (c, d, q) (start-sent program h x held items rest t name (ap (before (Some h)) (sym (limit-start x.event c d)) ∙ ahead))))

  repeated-sent : (x : Sender) → IsHeld h x → x.event.program ≡ program x.event.start → is_none (news x.event x.told) ≡ true
      → Tells program (Some h) (sent_onto items (cues_by x (chosen x (Some h) later))) (repeat_on (Some h) later (view x.event) x.last rest)
  repeated-sent x held name none =
      by_test (is_repeated x.event x.last (Some h) later)
      (λ r. let due : is_due (Some h) later (view x.event) x.last ≡ true = sym (repeated-is h later x.event x.last) ∙ r in
      let ahead = (and_parts (before (Some h) (line_limit (view x.event))) _ due).0 in
      simp (none, r) (subst (λ w. Tells program (Some h) (sent_onto items (cues_by x (current x.event))) (cond w (line_current (view x.event) ∷ rest) rest)) (sym due) (current-sent x held name ahead)))
      (λ r. let due : is_due (Some h) later (view x.event) x.last ≡ false = sym (repeated-is h later x.event x.last) ∙ r in
      simp (none, r) (subst (λ w. Tells program (Some h) items (cond w (line_current (view x.event) ∷ rest) rest)) (sym due) t))

  untold-sent : (e : Standing) (n m : ℕ) (ids : List ℕ) (l : Option ℤ) → IsHeld h (sender e n m ids None l) → e.program ≡ program e.start → int_lt h e.start ≡ true
      → Tells program (Some h) (sent_onto items (cues_by (sender e n m ids None l) (chosen (sender e n m ids None l) (Some h) later))) (told_on (Some h) later (view e) l Untold rest)
  untold-sent e n m ids l held name ahead =
      by_test e.cancelled
      (λ c. simp c (cancel-sent program h (sender e n m ids None l) held items rest t))
      (λ c. let first = start-sent program h (sender e n m ids None l) held items rest t name ahead in
      by_test (is_ended e)
      (λ d. let q = ended-is e ∙ d in simp (c, d, q) (end-sent program h (sender e n m ids None l) held (Sent (start_cue (sender e n m ids None l)) ∷ items) _ first (past h e.start e.length ahead) d))
      (λ d. let q = ended-is e ∙ d in simp (c, d, q) first))
    where
      past : (k start : ℤ) (n : ℕ) → int_lt k start ≡ true → int_lt k (start +ℤ pos n) ≡ true
      past k start n is = grind (arith, ints)

  known-sent : (e k : Standing) (n m : ℕ) (ids : List ℕ) (l : Option ℤ) → IsHeld h (sender e n m ids (Some k) l) → e.program ≡ program e.start → IsKnown (Some h) (view e) (view k) → k.length ≤ k.asked
      → Tells program (Some h) (sent_onto items (cues_by (sender e n m ids (Some k) l) (chosen (sender e n m ids (Some k) l) (Some h) later))) (told_on (Some h) later (view e) l (Known (view k)) rest)
  known-sent e k n m ids l held name known whole =
      let x = sender e n m ids (Some k) l in
      let same = end-new-is e k known.start in
      by_test (nat_lt e.length k.length)
      (λ s. let q : int_lt (end_of e) (end_of k) ≡ true = same ∙ s in
      let new = known.end_new (lt-test (end_of e) (end_of k) q) in
      let u : k.cancelled ≡ false = new.1 in
      let d : is_ended e ≡ true = ended e.start e.length e.asked k.start k.length k.asked s whole known.start known.asked in
      let one = end-sent program h x held items rest t new.0 d in
      by_test e.cancelled
      (λ c. simp (s, q, u, c) (cancel-sent program h x held (Sent (end_cue x) ∷ items) _ one))
      (λ c. simp (s, q, u, c) one))
      (λ s. let q : int_lt (end_of e) (end_of k) ≡ false = same ∙ s in
      by_test (e.cancelled && not k.cancelled)
      (λ b. simp (s, q, b) (cancel-sent program h x held items rest t))
      (λ b. let none : is_none (news e (Some k)) ≡ true = simp (s, b) refl in
      let quiet : is_news (view e) (view k) ≡ false = simp (q, b) refl in
      subst (λ w. Tells program (Some h) (sent_onto items (cues_by x (chosen x (Some h) later))) (cond w (cancel_on (view e) (view k) (end_on (view e) (end_of k) rest)) (repeat_on (Some h) later (view e) l rest))) (sym quiet)
      (repeated-sent x held name none)))
    where
      ended : (start : ℤ) (a b : ℕ) (start' : ℤ) (a' b' : ℕ) → nat_lt a a' ≡ true → a' ≤ b' → start' ≡ start → (start' +ℤ pos b') ≡ (start +ℤ pos b) → nat_lt a b ≡ true
      ended start a b start' a' b' s w p r = grind (arith, ints, nat_tests)

  one-sent : (e : Standing) (n m : ℕ) (ids : List ℕ) (told : Option Standing) (l : Option ℤ) (k : Told) (older : List LineEvent) → IsHeld h (sender e n m ids told l) → e.program ≡ program e.start
      → SameTold e told k → IsFair (Some h) (view e) k older
      → Tells program (Some h) (sent_onto items (cues_by (sender e n m ids told l) (chosen (sender e n m ids told l) (Some h) later))) (told_on (Some h) later (view e) l k rest)
  one-sent e n m ids None l Untold older held name same fair = untold-sent e n m ids l held name fair.ahead
  one-sent e n m ids None l (Known k) older held name same fair = absurd same
  one-sent e n m ids None l Never older held name same fair = absurd same
  one-sent e n m ids (Some o) l Untold older held name same fair = absurd same
  one-sent e n m ids (Some o) l (Known k) older held name same fair =
      subst (λ z. Tells program (Some h) (sent_onto items (cues_by (sender e n m ids (Some o) l) (chosen (sender e n m ids (Some o) l) (Some h) later))) (told_on (Some h) later (view e) l (Known z) rest)) same.0
      (known-sent e o n m ids l held name (subst (IsKnown (Some h) (view e)) (sym same.0) fair) same.1)
  one-sent e n m ids (Some o) l Never older held name same fair =
      repeated-sent (sender e n m ids (Some o) l) held name (news-is (Some h) e (Some o) Never older same fair)

  pub sender-sent : (x : Sender) (y : LineSender) (older : List LineEvent) → IsSender (Some h) x y → IsFair (Some h) y.event y.told older → x.event.program ≡ program x.event.start
      → Tells program (Some h) (sent_onto items (cues_of (Some h) later x)) (told_on (Some h) later y.event y.last y.told rest)
  sender-sent x y older same fair name =
      subst (λ e. Tells program (Some h) (sent_onto items (cues_of (Some h) later x)) (told_on (Some h) later e y.last y.told rest)) same.event_is
      (subst (λ l. Tells program (Some h) (sent_onto items (cues_of (Some h) later x)) (told_on (Some h) later (view x.event) l y.told rest)) same.last_is
      (one-sent x.event x.avail_num x.avails_expected x.avails x.told x.last y.told older same.held name same.told_is (subst (λ e. IsFair (Some h) e y.told older) (sym same.event_is) fair)))
