-- The answers that replies come to, where all were given: their lines.
use Rattle.std.proofs.Common.{◌≡◌, ◌++◌, true, false, List, [], ◌∷◌, refl, ap}
use Rattle.scte104_codec.specs.declared.reply.Reply.{Reply}
use Rattle.scte104_codec.specs.Replies.{reply_bytes}
use Rattle.chain_engine.specs.Hearing.{answers_to}
use Rattle.automations.specs.Scripts.{reply_line}
use Rattle.automations.specs.ScriptAnswers.{lines_of, are_given, reply_lines}

pub all_given : (rs : List Reply) → are_given (answers_to false rs) ≡ true
all_given [] = refl
all_given (r ∷ []) = refl
all_given (r ∷ s ∷ rs) = all_given (s ∷ rs)

pub their_lines : (rs : List Reply) → lines_of (answers_to false rs) ≡ reply_lines rs
their_lines [] = refl
their_lines (r ∷ []) = refl
their_lines (r ∷ s ∷ rs) = ap (λ l. reply_line (reply_bytes r) ++ l) (their_lines (s ∷ rs))
