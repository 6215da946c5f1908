-- The exchanges with an automation, with one take more and the answers behind it.
use Rattle.std.proofs.Common.{◌≡◌, ℕ, suc, ◌+◌, ◌≤◌, Bool, List, [], ◌∷◌, ◌++◌, length, take, drop, reverse, map, refl, sym, ap, subst, ◌∙◌, arith, length-append}
use Rattle.std.proofs.lemmas.List.{append-nil, drop_at, reverse-append, reverse-reverse, map-append, take-append-drop, take-take}
use Rattle.std.proofs.lemmas.Grind.{flat_map-append}
use lib.Seq.{take_all, take-append-le}
use Rattle.ts_packet.proofs.RunLemmas.{reverse-cons}
use Rattle.scte104_codec.specs.declared.reply.Reply.{Reply}
use Rattle.as_session.specs.Messages.{messages_of}
use Rattle.chain_engine.specs.Automation.{Take, Answer, Exchange, taken, answered, takes_and_answers, takes_in, answers_in, bytes_in, bytes_of}
use Rattle.chain_engine.specs.Hearing.{answers_to}
use Rattle.chain_engine.specs.Talks.{messages_taken, answers_behind, exchanges_of}
use Rattle.chain_engine.proofs.TalkLemmas.{begins_open}
use Rattle.chain_engine.proofs.StepsLemmas.{messages_front}

pub answers_long : (lost : Bool) (rs : List Reply) → length (answers_to lost rs) ≡ length rs
answers_long lost [] = refl
answers_long lost (r ∷ []) = refl
answers_long lost (r ∷ s ∷ rs) = ap suc (answers_long lost (s ∷ rs))

-- answers, and then answers
pub answers_follow : (xs ys : List Answer) → takes_and_answers [] xs ++ takes_and_answers [] ys ≡ takes_and_answers [] (xs ++ ys)
answers_follow xs ys = sym (map-append answered xs ys)

module _ {X : Type 0} (exchanges : X → List Exchange → X → Type 0) (exchanges_trans : (s t u : X) (xs ys : List Exchange) → exchanges s xs t → exchanges t ys u → exchanges s (xs ++ ys) u) where
  -- a take, and the answers behind it
  pub take_answered : (x y z : X) (t : Take) (xs : List Answer) → exchanges x (taken t ∷ []) y → exchanges y (takes_and_answers [] xs) z → exchanges x (takes_and_answers (t ∷ []) xs) z
  take_answered x y z t xs one two = exchanges_trans x y z (taken t ∷ []) (takes_and_answers [] xs) one two

  pub answers_both : (x y z : X) (xs ys : List Answer) → exchanges x (takes_and_answers [] xs) y → exchanges y (takes_and_answers [] ys) z → exchanges x (takes_and_answers [] (xs ++ ys)) z
  answers_both x y z xs ys one two =
      subst (λ l. exchanges x l z) (answers_follow xs ys) (exchanges_trans x y z (takes_and_answers [] xs) (takes_and_answers [] ys) one two)

-- ---- the messages of takes

-- those of takes at the front are no more
pub taken_front : (us vs : List Take) → length (messages_taken us) ≤ length (messages_taken (us ++ vs))
taken_front us vs =
    let (more, e) = messages_front (bytes_of us) (bytes_of vs) in
    let whole : messages_taken (us ++ vs) ≡ messages_taken us ++ more = ap (λ b. (messages_of b).messages) (flat_map-append bytes_in us vs) ∙ e in
    let all = ap length whole in
    let sum = length-append (messages_taken us) more in
    omega (arith, all, sum)

-- and so of those before a take
before_fewer : (t : Take) (before : List Take) → length (messages_taken (reverse before)) ≤ length (messages_taken (reverse (t ∷ before)))
before_fewer t before =
    subst (λ l. length (messages_taken (reverse before)) ≤ length (messages_taken l)) (sym (reverse-cons t before)) (taken_front (reverse before) (t ∷ []))

-- ---- the exchanges of takes

-- they stay as they are where answers come behind those to their messages
stays : (xs ys : List Answer) (before : List Take) → length (messages_taken (reverse before)) ≤ length xs → exchanges_of (xs ++ ys) before ≡ exchanges_of xs before
stays xs ys [] le = refl
stays xs ys (t ∷ before) le =
    let few = before_fewer t before in
    let same : answers_behind (xs ++ ys) t before ≡ answers_behind xs t before =
    ap (drop (length (messages_taken (reverse before)))) (take-append-le (length (messages_taken (reverse (t ∷ before)))) xs ys le) in
    ap (λ l. l ++ takes_and_answers (t ∷ []) (answers_behind (xs ++ ys) t before)) (stays xs ys before (omega (arith, few, le)))
    ∙ ap (λ l. exchanges_of xs before ++ takes_and_answers (t ∷ []) l) same

-- one take at most, and the answers to the messages that end in it
pub exchanges_more : (ts more : List Take) (xs ys : List Answer) → length xs ≡ length (messages_taken ts) → length more ≤ 1 → length xs + length ys ≤ length (messages_taken (ts ++ more))
    → exchanges_of (xs ++ ys) (reverse (ts ++ more)) ≡ exchanges_of xs (reverse ts) ++ takes_and_answers more ys
exchanges_more ts [] xs [] e few le =
    ap (λ l. exchanges_of l (reverse (ts ++ []))) (append-nil xs) ∙ ap (λ l. exchanges_of xs (reverse l)) (append-nil ts) ∙ sym (append-nil (exchanges_of xs (reverse ts)))
exchanges_more ts [] xs (y ∷ ys) e few le =
    let same : length (messages_taken (ts ++ [])) ≡ length (messages_taken ts) = ap (λ l. length (messages_taken l)) (append-nil ts) in
    absurd (omega (arith, same, e, le))
exchanges_more ts (t ∷ []) xs ys e few le =
    let back : reverse (reverse ts) ≡ ts = reverse-reverse ts in
    let all : reverse (t ∷ reverse ts) ≡ ts ++ t ∷ [] = reverse-cons t (reverse ts) ∙ ap (λ l. l ++ t ∷ []) back in
    let long = length-append xs ys in
    let before : length (messages_taken (reverse (reverse ts))) ≡ length xs = ap (λ l. length (messages_taken l)) back ∙ sym e in
    let enough : length (messages_taken (reverse (t ∷ reverse ts))) ≡ length (messages_taken (ts ++ t ∷ [])) = ap (λ l. length (messages_taken l)) all in
    let answers : answers_behind (xs ++ ys) t (reverse ts) ≡ ys =
    ap (drop (length (messages_taken (reverse (reverse ts))))) (take_all (length (messages_taken (reverse (t ∷ reverse ts)))) (xs ++ ys) (omega (arith, long, enough, le)))
    ∙ ap (λ n. drop n (xs ++ ys)) before ∙ drop_at xs ys (length xs) refl in
    ap (exchanges_of (xs ++ ys)) (reverse-append ts (t ∷ []))
    ∙ ap (λ l. l ++ takes_and_answers (t ∷ []) (answers_behind (xs ++ ys) t (reverse ts))) (stays xs ys (reverse ts) (omega (arith, before)))
    ∙ ap (λ l. exchanges_of xs (reverse ts) ++ takes_and_answers (t ∷ []) l) answers
exchanges_more ts (t ∷ u ∷ more) xs ys e few le = absurd (omega (arith, few))

-- ---- the takes and the answers among them

pub takes_both : (xs ys : List Exchange) → takes_in (xs ++ ys) ≡ takes_in xs ++ takes_in ys
takes_both [] ys = refl
takes_both (taken t ∷ xs) ys = ap (λ l. t ∷ l) (takes_both xs ys)
takes_both (answered a ∷ xs) ys = takes_both xs ys

pub answers_both_in : (xs ys : List Exchange) → answers_in (xs ++ ys) ≡ answers_in xs ++ answers_in ys
answers_both_in [] ys = refl
answers_both_in (taken t ∷ xs) ys = answers_both_in xs ys
answers_both_in (answered a ∷ xs) ys = ap (λ l. a ∷ l) (answers_both_in xs ys)

no_takes : (answers : List Answer) → takes_in (map answered answers) ≡ []
no_takes [] = refl
no_takes (a ∷ answers) = no_takes answers

all_answers : (answers : List Answer) → answers_in (map answered answers) ≡ answers
all_answers [] = refl
all_answers (a ∷ answers) = ap (λ l. a ∷ l) (all_answers answers)

pub takes_of : (answers : List Answer) (before : List Take) → takes_in (exchanges_of answers before) ≡ reverse before
takes_of answers [] = refl
takes_of answers (t ∷ before) =
    takes_both (exchanges_of answers before) (takes_and_answers (t ∷ []) (answers_behind answers t before))
    ∙ ap (λ l. l ++ (t ∷ takes_in (map answered (answers_behind answers t before)))) (takes_of answers before)
    ∙ ap (λ l. reverse before ++ t ∷ l) (no_takes (answers_behind answers t before)) ∙ sym (reverse-cons t before)

front_and_behind : (m n : ℕ) (xs : List Answer) → m ≤ n → take m xs ++ drop m (take n xs) ≡ take n xs
front_and_behind m n xs le = ap (λ l. l ++ drop m (take n xs)) (sym (take-take m n xs le)) ∙ take-append-drop m (take n xs)

answers_so_far : (answers : List Answer) (before : List Take) → answers_in (exchanges_of answers before) ≡ take (length (messages_taken (reverse before))) answers
answers_so_far answers [] = ap (λ n. take n answers) begins_open.2
answers_so_far answers (t ∷ before) =
    answers_both_in (exchanges_of answers before) (takes_and_answers (t ∷ []) (answers_behind answers t before))
    ∙ ap (λ l. l ++ answers_in (map answered (answers_behind answers t before))) (answers_so_far answers before)
    ∙ ap (λ l. take (length (messages_taken (reverse before))) answers ++ l) (all_answers (answers_behind answers t before))
    ∙ front_and_behind (length (messages_taken (reverse before))) (length (messages_taken (reverse (t ∷ before)))) answers (before_fewer t before)

pub answers_of : (answers : List Answer) (before : List Take) → length answers ≤ length (messages_taken (reverse before)) → answers_in (exchanges_of answers before) ≡ answers
answers_of answers before le = answers_so_far answers before ∙ take_all (length (messages_taken (reverse before))) answers le

-- of all takes in order
pub takes_are : (answers : List Answer) (ts : List Take) → takes_in (exchanges_of answers (reverse ts)) ≡ ts
takes_are answers ts = takes_of answers (reverse ts) ∙ reverse-reverse ts

pub answers_are : (answers : List Answer) (ts : List Take) → length answers ≤ length (messages_taken ts) → answers_in (exchanges_of answers (reverse ts)) ≡ answers
answers_are answers ts le = answers_of answers (reverse ts) (subst (λ l. length answers ≤ length (messages_taken l)) (sym (reverse-reverse ts)) le)
