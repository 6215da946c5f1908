use Rattle.std.proofs.Common.{◌≡◌, true, false, refl, sym, ap, ◌∙◌, take}
use Rattle.psi_section.specs.declared.assembler.Assembler.{Assembler}
use Rattle.psi_section.specs.declared.front.Front.TheVariants.{Nothing, Whole, Part}
use Rattle.psi_section.specs.Sections.{front_of, is_bad}
use Rattle.psi_section.specs.Storing.{content}
use Rattle.psi_section.proofs.AssemblerLemmas.{gives_left, passes_bad, passes_good, ends_in_part, ends_in_nothing}
use Rattle.psi_section.proofs.assembler.Assembler.pass_over.Goals as goal

pub loop-size-init : goal.loop-size-init
loop-size-init c = λ pid past todo g. gives_left c.args.self.now pid past todo g

pub loop-size-preserved-then-is_bad : goal.loop-size-preserved-then-is_bad
loop-size-preserved-then-is_bad c = λ pid past todo g.
    let a = c.loop-size.self in
    let b : Assembler = record { last = a.last; store = c.skip.new.self; bad = c.saturating_add-self.result } in
    let n = c.in-Whole.size in
    let f : front_of (content a.store) ≡ Whole n = cc in
    let y : is_bad (take n (content a.store)) ≡ true = sym (c.is_bad-is_bad.ensures ∙ ap (λ x. is_bad (take n x)) c.content-in-Whole.ensures) ∙ c.if-is_bad.true in
    passes_bad a b pid past (c.loop-size.invariant pid past todo g) n f refl c.skip.ensures y c.saturating_add-self.ensures

pub loop-size-preserved : goal.loop-size-preserved
loop-size-preserved c = λ pid past todo g.
    let a = c.loop-size.self in
    let b : Assembler = record { last = a.last; store = c.skip.new.self; bad = a.bad } in
    let n = c.in-Whole.size in
    let f : front_of (content a.store) ≡ Whole n = cc in
    let y : is_bad (take n (content a.store)) ≡ false = sym (c.is_bad-is_bad.ensures ∙ ap (λ x. is_bad (take n x)) c.content-in-Whole.ensures) ∙ c.if-is_bad.false in
    passes_good a b pid past (c.loop-size.invariant pid past todo g) n f refl c.skip.ensures y refl

pub returns-in-Part-clause-waits : goal.returns-in-Part-clause-waits
returns-in-Part-clause-waits c = λ pid past todo g.
    let a = c.loop-size.self in
    let f : front_of (content a.store) ≡ Part = cc in
    ends_in_part a _ pid past (c.loop-size.invariant pid past todo g) f refl

pub returns-in-Nothing-clause-waits : goal.returns-in-Nothing-clause-waits
returns-in-Nothing-clause-waits c = λ pid past todo g.
    let a = c.loop-size.self in
    let b : Assembler = record { last = a.last; store = c.clear.new.self; bad = a.bad } in
    let f : front_of (content a.store) ≡ Nothing = cc in
    ends_in_nothing a b pid past (c.loop-size.invariant pid past todo g) f refl refl c.clear.ensures
