-- What a script gives and is answered: from one state of it to a later one.
use Rattle.std.specs.Prelude.{ℕ, List, [], ◌++◌, Option}
use Rattle.std.proofs.Common.{sym, subst}
use Rattle.chain_engine.specs.Automation.{Exchange, takes_in, answers_in}
use Rattle.chain_engine.proofs.ExchangeLemmas.{takes_both, answers_both_in}
use Rattle.automations.specs.ScriptTakes.{ScriptTakes, ScriptTakes-refl, ScriptTakes-trans}
use Rattle.automations.specs.ScriptAnswers.{ScriptAnswers, ScriptAnswers-refl, ScriptAnswers-trans}
use Rattle.automations.specs.declared.script.Script.{Script}

-- THE EXCHANGES OF A SCRIPT between these states: its takes, and the answers that it prints
abbrev pub ScriptExchanges : {W M : Type 0} → (W → Option (List ℕ)) → Script W M → List Exchange → Script W M → Type 0
ScriptExchanges contents s es t = ScriptTakes s (takes_in es) t × ScriptAnswers contents s (answers_in es) t

pub ScriptExchanges-refl : {W M : Type 0} (contents : W → Option (List ℕ)) (s : Script W M) → ScriptExchanges contents s [] s
ScriptExchanges-refl contents s = (ScriptTakes-refl s, ScriptAnswers-refl contents s)

pub ScriptExchanges-trans : {W M : Type 0} (contents : W → Option (List ℕ)) (s t u : Script W M) (xs ys : List Exchange)
    → ScriptExchanges contents s xs t → ScriptExchanges contents t ys u → ScriptExchanges contents s (xs ++ ys) u
ScriptExchanges-trans contents s t u xs ys one two = (
  subst (λ l. ScriptTakes s l u) (sym (takes_both xs ys)) (ScriptTakes-trans s t u (takes_in xs) (takes_in ys) one.0 two.0),
  subst (λ l. ScriptAnswers contents s l u) (sym (answers_both_in xs ys)) (ScriptAnswers-trans contents s t u (answers_in xs) (answers_in ys) one.1 two.1),
)
