-- What a script prints of the answers that it is given: from one state of it to a later one.
use Rattle.std.specs.Prelude.{◌≡◌, ℕ, Bool, true, false, List, [], ◌∷◌, ◌++◌, Option, ◌&&◌}
use Rattle.std.specs.List.{list_all, flat_map}
use Rattle.std.specs.Io.KnownBytes.{Appends}
use Rattle.std.proofs.Common.{refl, ap, subst, ◌∙◌, append_assoc}
use Rattle.std.proofs.KnownBytes.{Appends-nil, Appends-trans}
use Rattle.scte104_codec.specs.declared.reply.Reply.{Reply}
use Rattle.scte104_codec.specs.Replies.{reply_bytes}
use Rattle.chain_engine.specs.Automation.{Answer}
use Rattle.automations.specs.Scripts.{reply_line}
use Rattle.automations.specs.declared.script.Script.{Script}

-- the lines of these answers, one after another
abbrev pub lines_of : List Answer → List ℕ
lines_of [] = []
lines_of (a ∷ answers) = reply_line a.reply ++ lines_of answers

-- those of replies that were all given
abbrev pub reply_lines : List Reply → List ℕ
reply_lines replies = flat_map (λ (r : Reply). reply_line (reply_bytes r)) replies

abbrev pub are_given : List Answer → Bool
are_given answers = list_all (λ (a : Answer). a.is_given) answers

-- THE ANSWERS OF A SCRIPT between these states: where each was printed whole, what the writer of the replies holds has grown by their lines
abbrev pub ScriptAnswers : {W M : Type 0} → (W → Option (List ℕ)) → Script W M → List Answer → Script W M → Type 0
ScriptAnswers contents s answers t = are_given answers ≡ true → Appends (contents s.replies.writer) (contents t.replies.writer) (lines_of answers)

-- ---- answers follow one another

lines_more : (xs ys : List Answer) → lines_of xs ++ lines_of ys ≡ lines_of (xs ++ ys)
lines_more [] ys = refl
lines_more (x ∷ xs) ys = append_assoc (reply_line x.reply) (lines_of xs) (lines_of ys) ∙ ap (λ l. reply_line x.reply ++ l) (lines_more xs ys)

pub given_both : (xs ys : List Answer) → are_given (xs ++ ys) ≡ true → (are_given xs ≡ true) × (are_given ys ≡ true)
given_both [] ys h = (refl, h)
given_both (x ∷ xs) ys h = by x.is_given h (given_both xs ys)
  where
    by : (b : Bool) → b && are_given (xs ++ ys) ≡ true → (are_given (xs ++ ys) ≡ true → (are_given xs ≡ true) × (are_given ys ≡ true))
        → (b && are_given xs ≡ true) × (are_given ys ≡ true)
    by true k rest = rest k
    by false k rest = absurd (cc)

pub ScriptAnswers-refl : {W M : Type 0} (contents : W → Option (List ℕ)) (s : Script W M) → ScriptAnswers contents s [] s
ScriptAnswers-refl contents s given = Appends-nil (contents s.replies.writer)

pub ScriptAnswers-trans : {W M : Type 0} (contents : W → Option (List ℕ)) (s t u : Script W M) (xs ys : List Answer)
    → ScriptAnswers contents s xs t → ScriptAnswers contents t ys u → ScriptAnswers contents s (xs ++ ys) u
ScriptAnswers-trans contents s t u xs ys one two given =
    let (first, second) = given_both xs ys given in
    subst (Appends (contents s.replies.writer) (contents u.replies.writer)) (lines_more xs ys)
    (Appends-trans (contents s.replies.writer) (contents t.replies.writer) (contents u.replies.writer) (lines_of xs) (lines_of ys) (one first) (two second))
