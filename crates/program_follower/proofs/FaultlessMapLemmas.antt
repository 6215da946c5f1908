-- The map that was found without a fault last: when a section is that one, and what is known then.
use Rattle.std.specs.Option.{option_or, option_eq}
use Rattle.std.proofs.Common.{◌≡◌, ℕ, Bool, true, false, ◌&&◌, eqb, refl, ap, ◌∙◌, Option, Some, None}
use Rattle.std.specs.Prelude.{is_some}
use Rattle.std.proofs.Math.Bool.{beq}
use Rattle.std.proofs.lemmas.Bool.{eqb-true, and_parts}
use Rattle.program_follower.specs.declared.purpose.Purpose.{Purpose}
use Rattle.program_follower.specs.declared.purpose.Listed.{Listed}
use Rattle.program_follower.specs.declared.known.KnownProgram.{KnownProgram}
use Rattle.program_follower.specs.Program.{Program}
use Rattle.program_follower.specs.Known.{known_seen}

-- ---- what a map was judged by

numbers_same : (o p : Option ℕ) → option_eq eqb o p ≡ true → o ≡ p
numbers_same None None h = refl
numbers_same None (Some y) h = absurd (cc)
numbers_same (Some x) None h = absurd (cc)
numbers_same (Some x) (Some y) h = ap (λ (n : ℕ). let o : Option ℕ = Some n in o) (eqb-true x y h)

flags_same : (a b : Bool) → beq a b ≡ true → a ≡ b
flags_same true true h = refl
flags_same true false h = absurd (cc)
flags_same false true h = absurd (cc)
flags_same false false h = refl

pub purpose_same : (c d : Purpose) → (option_eq eqb c.program d.program && (option_eq eqb c.cue_pid d.cue_pid && beq c.writes_cues d.writes_cues)) ≡ true → c ≡ d
purpose_same c d h =
    let a = and_parts (option_eq eqb c.program d.program) (option_eq eqb c.cue_pid d.cue_pid && beq c.writes_cues d.writes_cues) h in
    let b = and_parts (option_eq eqb c.cue_pid d.cue_pid) (beq c.writes_cues d.writes_cues) a.1 in
    ap (λ (n : Option ℕ). let x : Purpose = record { program = n; cue_pid = c.cue_pid; writes_cues = c.writes_cues } in x) (numbers_same c.program d.program a.0)
    ∙ ap (λ (n : Option ℕ). let x : Purpose = record { program = d.program; cue_pid = n; writes_cues = c.writes_cues } in x) (numbers_same c.cue_pid d.cue_pid b.0)
    ∙ ap (λ (w : Bool). let x : Purpose = record { program = d.program; cue_pid = d.cue_pid; writes_cues = w } in x) (flags_same c.writes_cues d.writes_cues b.1)

pub listed_equal : (l m : Listed) → (eqb l.program m.program && eqb l.pid m.pid) ≡ true → l ≡ m
listed_equal l m h =
    let a = and_parts (eqb l.program m.program) (eqb l.pid m.pid) h in
    ap (λ (n : ℕ). let x : Listed = record { program = n; pid = l.pid } in x) (eqb-true l.program m.program a.0)
    ∙ ap (λ (n : ℕ). let x : Listed = record { program = m.program; pid = n } in x) (eqb-true l.pid m.pid a.1)

-- ---- what is known

pub seen_some : (o : Option KnownProgram) → is_some (known_seen o) ≡ is_some o
seen_some None = refl
seen_some (Some k) = refl

-- what is known stays
pub known_stays : (o more : Option Program) → is_some o ≡ true → option_or o more ≡ o
known_stays None more h = absurd (cc)
known_stays (Some r) more h = refl
