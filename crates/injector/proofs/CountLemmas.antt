-- Messages counted by their replies.
use Rattle.std.proofs.Common.{◌≡◌, ℕ, ◌+◌, ◌-◌, ◌^◌, Bool, true, false, cond, List, [], ◌∷◌, length, refl, ap, sym, ◌∙◌, arith}
use Rattle.std.specs.Prelude.{min, nat_lt, Option, None, Some, Result, Ok, Err}
use Rattle.scte104_codec.specs.declared.reply.Reply.{Reply}
use Rattle.scte104_codec.specs.Reading.{MessageReading, init, alive, other, multiple, bad}
use Rattle.psi_section.specs.Assembling.{capped}
use Rattle.injector.specs.declared.counts.MessageCounts.{MessageCounts}
use Rattle.injector.specs.declared.refusal.Refusal.{Refusal}
use Rattle.injector.specs.declared.refusal.Refusal.TheVariants.{BadSyntax}
use Rattle.injector.specs.Turns.{Turn, Judged, verdict}
use Rattle.injector.specs.Replies.{reply_with, reply_to}
use Rattle.event_table.specs.Counting.{one_if}
use Rattle.injector.specs.Steps.{outcome, is_accepted, is_refused, judged_in, accepted_in, refused_in}
use Rattle.injector.specs.Injecting.{CountsAre}

-- the opID of a reply, and whether it accepts, say what became of the message
record Says (op : ℕ) (o : Option (Result (Unit {0}) Refusal)) : Type 0 where
  refused : op ≡ 7 → is_accepted o ≡ false → is_refused o ≡ true

says-none : (op : ℕ) → (op ≡ 7 → ⊥) → Says op None
says-none op never = record { refused = λ e k. absurd (never e) }

says-verdict : (v : Result (Unit {0}) Refusal) → Says 7 (Some v)
says-verdict (Ok u) = record { refused = λ e k. absurd (let no : true ≡ false = k in cc) }
says-verdict (Err e) = record { refused = λ o k. refl }

not-both : (o : Option (Result (Unit {0}) Refusal)) → is_accepted o ≡ true → is_refused o ≡ false
not-both None is = refl
not-both (Some (Ok u)) is = refl
not-both (Some (Err e)) is = absurd (let no : false ≡ true = is in cc)

says : (index : ℕ) (m : MessageReading) (past : List Turn) → Says (reply_to index m past).op (outcome index m past)
says index (init head) past = says-none 2 (λ e. omega arith)
says index (alive head body) past = by (nat_lt 8 (length body))
  where
    by : (b : Bool) → Says (cond b (reply_with 0x0004 0x8001 head []) (reply_with 0x0004 100 head body)).op None
    by true = says-none 4 (λ e. omega arith)
    by false = says-none 4 (λ e. omega arith)
says index (other head) past = says-none 0 (λ e. omega arith)
says index (multiple m) past = says-verdict (verdict index m past)
says index (bad true head) past = says-verdict (Err BadSyntax)
says index (bad false head) past = says-none 4 (λ e. omega arith)

up : (n k : ℕ) → n ≡ capped k → min (n + 1) (2 ^ 64 - 1) ≡ capped (1 + k)
up n k is = grind arith

same : (n k : ℕ) → n ≡ capped k → n ≡ capped (0 + k)
same n k is = grind arith

module _ (index : ℕ) (m : MessageReading) (past : List Turn) (before after : MessageCounts) (counts : CountsAre before index past) (messages : after.messages ≡ min (before.messages + 1) (2 ^ 64 - 1)) where
  pub counted-accepted : is_accepted (outcome index m past) ≡ true → after.accepted ≡ min (before.accepted + 1) (2 ^ 64 - 1) → after.refused ≡ before.refused → CountsAre after index (Judged m ∷ past)
  counted-accepted is one none =
      record {
        messages = messages ∙ up before.messages (judged_in past) counts.messages;
        accepted = one ∙ up before.accepted (accepted_in index past) counts.accepted ∙ ap (λ b. capped (one_if b + accepted_in index past)) (sym is);
        refused = none ∙ same before.refused (refused_in index past) counts.refused ∙ ap (λ b. capped (one_if b + refused_in index past)) (sym (not-both (outcome index m past) is));
      }

  pub counted-refused : (reply : Reply) → reply ≡ reply_to index m past → reply.op ≡ 7 → is_accepted (outcome index m past) ≡ false → after.refused ≡ min (before.refused + 1) (2 ^ 64 - 1)
      → after.accepted ≡ before.accepted → CountsAre after index (Judged m ∷ past)
  counted-refused reply is op not-accepted one none =
      let refused = (says index m past).refused (sym (ap (λ r. r.op) is) ∙ op) not-accepted in
      record {
        messages = messages ∙ up before.messages (judged_in past) counts.messages;
        accepted = none ∙ same before.accepted (accepted_in index past) counts.accepted ∙ ap (λ b. capped (one_if b + accepted_in index past)) (sym not-accepted);
        refused = one ∙ up before.refused (refused_in index past) counts.refused ∙ ap (λ b. capped (one_if b + refused_in index past)) (sym refused);
      }
