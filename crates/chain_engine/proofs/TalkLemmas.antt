-- A talk with one take more.
use Rattle.std.proofs.Common.{◌≡◌, ℕ, suc, ◌+◌, ◌≤◌, Bool, true, false, not, List, [], ◌∷◌, ◌++◌, length, take, drop, Option, None, Some, refl, sym, ap, subst, ◌∙◌, arith, append_assoc, length-append, ◌&&◌}
use Rattle.std.specs.Option.{is_some}
use Rattle.std.specs.List.{list_all}
use Rattle.std.proofs.lemmas.List.{append-nil, drop_at}
use Rattle.std.proofs.lemmas.Grind.{flat_map-append}
use lib.Seq.{take_all, take-append-le}
use Rattle.wire_fields.specs.Numbers.{AreBytes}
use Rattle.scte104_codec.proofs.WidthLemmas.{both_bytes}
use Rattle.scte104_codec.specs.declared.reply.Reply.{Reply}
use Rattle.scte104_codec.specs.Framing.{frame_of}
use Rattle.as_session.specs.Pending.{is_partial}
use Rattle.as_session.specs.Feeding.{State, opened}
use Rattle.as_session.specs.Session.{state_of}
use Rattle.as_session.specs.Messages.{messages_of, messages_within}
use Rattle.as_session.proofs.FrameLemmas.{partial_none}
use Rattle.scte104_codec.specs.Reading.{MessageReading}
use Rattle.std.proofs.Math.Seq.{drop-length}
use Rattle.chain_engine.specs.Automation.{Answer, CountsAnswer, Take, piece, ended, failed, bytes_in, bytes_of}
use Rattle.chain_engine.specs.Hearing.{HearsPiece, Replied, CanEnd, lost_by}
use Rattle.chain_engine.specs.declared.hearing.SessionEnd.{SessionEnd}
use Rattle.chain_engine.specs.declared.hearing.SessionEnd.TheVariants.{Ended, TakeFailed, BadSize, AnswerFailed}
use Rattle.chain_engine.specs.Talks.{is_piece, messages_taken, messages_judged, judged_before, HasTalked, TalkStandsFor, loses, CountsEnd}
use Rattle.chain_engine.specs.declared.talk.Talk.{Talk}
use Rattle.chain_engine.proofs.HearingLemmas.{replied_none, judged_count}

-- ---- lists

take_front : {X : Type 0} (xs ys : List X) (n : ℕ) → length xs ≡ n → take n (xs ++ ys) ≡ xs
take_front xs ys n e = take-append-le n xs ys (omega (arith, e)) ∙ take_all n xs (omega (arith, e))

take_whole : {X : Type 0} (xs : List X) (n : ℕ) → length xs ≤ n → take n xs ≡ xs
take_whole xs n le = take_all n xs le

all_more : (takes : List Take) (t : Take) → list_all is_piece takes ≡ true → is_piece t ≡ true → list_all is_piece (takes ++ t ∷ []) ≡ true
all_more [] t h k = rw k refl
all_more (s ∷ takes) t h k = both (is_piece s) _ _ h (all_more takes t (right (is_piece s) _ h) k)
  where
    right : (a b : Bool) → (a && b) ≡ true → b ≡ true
    right true b e = e
    right false b e = absurd (cc)

    both : (a b c : Bool) → (a && b) ≡ true → c ≡ true → (a && c) ≡ true
    both true b c e f = f
    both false b c e f = absurd (cc)

pub bytes_more : (takes : List Take) (t : Take) → bytes_of (takes ++ t ∷ []) ≡ bytes_of takes ++ bytes_in t
bytes_more takes t = flat_map-append bytes_in takes (t ∷ []) ∙ ap (λ l. bytes_of takes ++ l) (append-nil (bytes_in t))

-- ---- which messages are judged before the packet

-- a take before the packet, behind one for each packet before it
pub judged_new : (takes : List Take) (t : Take) (k : ℕ) (ms more : List (List ℕ)) → length takes ≡ k → messages_taken (takes ++ t ∷ []) ≡ messages_taken takes ++ (ms ++ more)
    → judged_before (length (messages_taken takes) + length ms) (takes ++ t ∷ []) k ≡ ms
judged_new takes t k ms more e h =
    let most = length (messages_taken takes) + length ms in
    let long = length-append takes (t ∷ []) in
    let before : messages_judged most (take k (takes ++ t ∷ [])) ≡ messages_taken takes =
    ap (messages_judged most) (take_front takes (t ∷ []) k e) ∙ take_whole (messages_taken takes) most (omega arith) in
    let all : messages_judged most (take (suc k) (takes ++ t ∷ [])) ≡ messages_taken takes ++ ms =
    ap (messages_judged most) (take_whole (takes ++ t ∷ []) (suc k) (omega (arith, long, e)))
    ∙ ap (take most) (h ∙ sym (append_assoc (messages_taken takes) ms more))
    ∙ take_front (messages_taken takes ++ ms) more most (length-append (messages_taken takes) ms) in
    ap (λ l. drop (length l) (messages_judged most (take (suc k) (takes ++ t ∷ [])))) before ∙ ap (drop (length (messages_taken takes))) all ∙ (drop_at (messages_taken takes) ms (length (messages_taken takes)) refl)

-- no take before it
pub judged_none : (most : ℕ) (takes : List Take) (k : ℕ) → length takes ≤ k → judged_before most takes k ≡ []
judged_none most takes k le =
    let here : messages_judged most (take k takes) ≡ messages_judged most takes = ap (messages_judged most) (take_whole takes k le) in
    let next : messages_judged most (take (suc k) takes) ≡ messages_judged most takes = ap (messages_judged most) (take_whole takes (suc k) (omega (arith, le))) in
    ap (λ l. drop (length l) (messages_judged most (take (suc k) takes))) here ∙ ap (drop (length (messages_judged most takes))) next ∙ drop-length (messages_judged most takes)

-- ---- a take

-- what is known of a talk behind a take, and of the messages that were judged
pub record Goes (end : Option SessionEnd) (s : State) (takes : List Take) (n k : ℕ) (ms : List (List ℕ)) : Type 0 where
  pub talked : HasTalked end takes n (suc k)
  pub pending : end ≡ None → s ≡ opened (messages_of (bytes_of takes)).rest
  pub judged : judged_before n takes k ≡ ms

-- a closed session
pub goes_closed : (end : Option SessionEnd) (s : State) (takes : List Take) (n k : ℕ) → is_some end ≡ true → HasTalked end takes n k → Goes end s takes n k []
goes_closed None s takes n k e h = absurd (cc)
goes_closed (Some end) s takes n k e h = record { talked = (omega (arith, h.0), h.1); pending = λ e. absurd (cc); judged = judged_none n takes k h.0 }

pub loses_closed : (end : Option SessionEnd) → is_some end ≡ true → loses end end ≡ false
loses_closed None e = absurd (cc)
loses_closed (Some end) e = refl

module _ (takes : List Take) (n k : ℕ) (h : HasTalked None takes n k) where
  module _ (t : Take) (same : bytes_in t ≡ []) where
    no_bytes : bytes_of (takes ++ t ∷ []) ≡ bytes_of takes
    no_bytes = bytes_more takes t ∙ ap (λ l. bytes_of takes ++ l) same ∙ append-nil (bytes_of takes)

    no_messages : messages_taken (takes ++ t ∷ []) ≡ messages_taken takes ++ ([] ++ [])
    no_messages = ap (λ l. (messages_of l).messages) no_bytes ∙ sym (append-nil (messages_taken takes))

    none_judged : judged_before n (takes ++ t ∷ []) k ≡ []
    none_judged = ap (λ m. judged_before m (takes ++ t ∷ []) k) (h.2 ∙ (omega arith)) ∙ judged_new takes t k [] [] h.0 no_messages

  long : (t : Take) → length (takes ++ t ∷ []) ≡ suc k
  long t = let l = length-append takes (t ∷ []) in omega (arith, l, h.0)

  fits : (t : Take) → length (takes ++ t ∷ []) ≤ suc k
  fits t = let l = long t in omega (arith, l)

  -- nothing was there
  pub goes_nothing : (s : State) → s ≡ opened (messages_of (bytes_of takes)).rest → Goes None s (takes ++ piece [] ∷ []) n k []
  goes_nothing s e =
      let same = no_bytes (piece []) refl in
      record {
        talked = (
          long (piece []),
          record { pieces = all_more takes (piece []) h.1.pieces refl; partial = subst (λ l. is_partial (messages_of l).rest ≡ true) (sym same) h.1.partial },
          h.2 ∙ sym (ap (λ l. length (messages_of l).messages) same),
        );
        pending = λ _. e ∙ ap (λ l. opened (messages_of l).rest) (sym same);
        judged = none_judged (piece []) refl;
      }

  -- the automation ended, or failed
  pub goes_ended : (s : State) → Goes (Some Ended) s (takes ++ ended ∷ []) n k []
  goes_ended s = record { talked = (fits ended, (takes, refl, h.1, h.2)); pending = λ e. absurd (cc); judged = none_judged ended refl }

  pub goes_failed : (s : State) → Goes (Some TakeFailed) s (takes ++ failed ∷ []) n k []
  goes_failed s = record { talked = (fits failed, (takes, refl, h.1, h.2)); pending = λ e. absurd (cc); judged = none_judged failed refl }

  -- a piece was heard
  module _ (bs : List ℕ) (s : State) (ms : List (List ℕ)) where
    stream_more : bytes_of (takes ++ piece bs ∷ []) ≡ bytes_of takes ++ bs
    stream_more = bytes_more takes (piece bs)

    messages_are : (more : List (List ℕ)) → (messages_of (bytes_of takes ++ bs)).messages ≡ (messages_of (bytes_of takes)).messages ++ (ms ++ more) → messages_taken (takes ++ piece bs ∷ []) ≡ messages_taken takes ++ (ms ++ more)
    messages_are more e = ap (λ l. (messages_of l).messages) stream_more ∙ e

    count : (more : List (List ℕ)) → messages_taken (takes ++ piece bs ∷ []) ≡ messages_taken takes ++ (ms ++ more) → length (messages_taken (takes ++ piece bs ∷ [])) ≡ (n + length ms) + length more
    count more e =
        let a = ap length e in
        let b = length-append (messages_taken takes) (ms ++ more) in
        let c = length-append ms more in
        omega (arith, a, b, c, h.2)

    judged_by : (more : List (List ℕ)) → messages_taken (takes ++ piece bs ∷ []) ≡ messages_taken takes ++ (ms ++ more) → judged_before (n + length ms) (takes ++ piece bs ∷ []) k ≡ ms
    judged_by more e = ap (λ m. judged_before (m + length ms) (takes ++ piece bs ∷ []) k) h.2 ∙ judged_new takes (piece bs) k ms more h.0 e

    with_none : (messages_of (bytes_of takes ++ bs)).messages ≡ (messages_of (bytes_of takes)).messages ++ ms → messages_taken (takes ++ piece bs ∷ []) ≡ messages_taken takes ++ (ms ++ [])
    with_none e = messages_are [] (e ∙ ap (λ l. messages_taken takes ++ l) (sym (append-nil ms)))

    pub goes_heard : (end : Option SessionEnd) → HearsPiece (bytes_of takes) bs ms s end → (end ≡ None → is_partial (messages_of (bytes_of takes ++ bs)).rest ≡ true)
        → Goes end s (takes ++ piece bs ∷ []) (n + length ms) k ms
    goes_heard None e p =
        let all = with_none e.0 in
        let number = count [] all in
        record {
          talked = (
            long (piece bs),
            record { pieces = all_more takes (piece bs) h.1.pieces refl; partial = subst (λ l. is_partial (messages_of l).rest ≡ true) (sym stream_more) (p refl) },
            omega (arith, number),
          );
          pending = λ _. e.1 ∙ ap (λ l. opened (messages_of l).rest) (sym stream_more);
          judged = judged_by [] all;
        }
    goes_heard (Some BadSize) e p =
        let all = with_none e.0 in
        let number = count [] all in
        record {
          talked = (fits (piece bs), (takes, bs, refl, h.1, (omega (arith, number)), ap (λ l. frame_of (messages_of l).rest) stream_more ∙ e.1));
          pending = λ e. absurd (cc);
          judged = judged_by [] all;
        }
    goes_heard (Some AnswerFailed) (some, (more, e)) p =
        let all = messages_are more e in
        let number = count more all in
        record {
          talked = (fits (piece bs), (takes, bs, refl, h.1, omega (arith, some, h.2), omega (arith, number)));
          pending = λ e. absurd (cc);
          judged = judged_by more all;
        }
    goes_heard (Some Ended) e p = absurd e
    goes_heard (Some TakeFailed) e p = absurd e

-- ---- what a call comes to

pub begins_open : HasTalked None [] 0 0
unfolding messages_within
begins_open = (refl, record { pieces = refl; partial = partial_none [] refl }, refl)

pub begins_empty : (s : State) → s ≡ opened [] → s ≡ opened (messages_of (bytes_of [])).rest
unfolding messages_within
begins_empty s e = e

pub open_end : (end : Option SessionEnd) → is_some end ≡ false → end ≡ None
open_end None e = refl
open_end (Some x) e = absurd (cc)

-- a session that goes on behind a piece
pub hears_open : (stream bs : List ℕ) (ms : List (List ℕ)) (s : State) (end : Option SessionEnd) → HearsPiece stream bs ms s end → end ≡ None → s ≡ opened (messages_of (stream ++ bs)).rest
hears_open stream bs ms s None h e = h.1
hears_open stream bs ms s (Some end) h e = absurd (cc)

pub counts_heard : (end : Option SessionEnd) (old new : ℕ) → CanEnd end → CountsAnswer (not (lost_by end)) old new → CountsEnd None end old new
counts_heard None old new can h = h
counts_heard (Some BadSize) old new can h = h
counts_heard (Some AnswerFailed) old new can h = h
counts_heard (Some Ended) old new can h = absurd can
counts_heard (Some TakeFailed) old new can h = absurd can

-- what takes gave are bytes, with one take more
pub bytes_told : (ts : List Take) (t : Take) → AreBytes (bytes_of ts) → AreBytes (bytes_in t) → AreBytes (bytes_of (ts ++ t ∷ []))
bytes_told ts t h k = subst AreBytes (sym (bytes_more ts t)) (both_bytes (bytes_of ts) (bytes_in t) h k)

pub none_bytes : AreBytes []
none_bytes place = omega arith

pub none_told : (ts : List Take) (t : Take) → bytes_in t ≡ [] → AreBytes (bytes_of ts) → AreBytes (bytes_of (ts ++ t ∷ []))
none_told ts t e h = bytes_told ts t h (subst AreBytes (sym e) none_bytes)

-- `answers` says of takes, and of the answers behind them, that they came
module _ {J M : Type 0} (judges : J → MessageReading → Reply → J → Type 0) (j i : J) (answers : List Take → List Answer → Type 0) (talk : Talk M) (ts : List Take) (n k : ℕ) where
  pub listened : (more : List Take) (ms : List (List ℕ)) (rs : List Reply) (lost : Bool) → AreBytes (bytes_of (ts ++ more)) → Goes talk.end (state_of talk.session) (ts ++ more) (n + length ms) k ms
      → Replied judges j i ms rs lost (answers more)
      → (x : List Take) × (y : List Reply) × TalkStandsFor talk (ts ++ x) (n + length y) (suc k) × Replied judges j i (judged_before (n + length y) (ts ++ x) k) y lost (answers x)
  listened more ms rs lost bytes goes replied =
      let number = judged_count judges j i ms rs replied.judged in (
        more,
        rs,
        record { talked = subst (λ m. HasTalked talk.end (ts ++ more) (n + m) (suc k)) number goes.talked; pending = goes.pending; bytes = bytes },
        subst (λ l. Replied judges j i l rs lost (answers more)) (sym (ap (λ m. judged_before (n + m) (ts ++ more) k) (sym number) ∙ goes.judged)) replied,
      )

  -- no message is judged
  pub listened_none : (more : List Take) (lost : Bool) → lost ≡ false → (e : i ≡ j) (f : answers more []) → AreBytes (bytes_of (ts ++ more)) → Goes talk.end (state_of talk.session) (ts ++ more) n k []
      → (x : List Take) × (y : List Reply) × TalkStandsFor talk (ts ++ x) (n + length y) (suc k) × Replied judges j i (judged_before (n + length y) (ts ++ x) k) y lost (answers x)
  listened_none more lost l e f bytes goes =
      let none = replied_none judges j [] (answers more) f refl in
      let there = subst (λ a. Replied judges j a [] none.0 lost (answers more)) (sym e) (subst (λ b. Replied judges j j [] none.0 b (answers more)) (sym l) none.1) in
      listened more [] none.0 lost bytes (subst (λ m. Goes talk.end (state_of talk.session) (ts ++ more) m k []) (omega arith) goes) there
