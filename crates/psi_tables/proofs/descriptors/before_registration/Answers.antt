use Rattle.std.proofs.Common.{◌≡◌, ◌+◌, true, false, sym, ap, length, List, ℕ, ◌∙◌, arith, length-append}
use Rattle.std.specs.Prelude.{◌==◌, ◌&&◌}
use Rattle.psi_tables.specs.Descriptors.{registers_cues}
use Rattle.std.proofs.lemmas.Bool.{eqb-true, and_parts}
use Rattle.psi_tables.proofs.DescriptorLemmas.{descriptor_kept, descriptors_fill_more, last_dropped, none_kept, front_fits, kept_all, last_of}
use Rattle.psi_tables.proofs.descriptors.before_registration.Goals as goal

pub returns-then-ends_in_registration-clause-value : goal.returns-then-ends_in_registration-clause-value
returns-then-ends_in_registration-clause-value c =
    let both-are : ((length c.in-Some.after.now == 0) && registers_cues c.in-Some.front.now) ≡ true = sym c.ends_in_registration.ensures ∙ c.if-ends_in_registration.true in
    let parts = and_parts (length c.in-Some.after.now == 0) (registers_cues c.in-Some.front.now) both-are in
    kept_all _ _ _ (last_dropped c.loop-front.rest.now c.in-Some.front.now c.in-Some.after.now c.in-Some.ensures (eqb-true _ _ parts.0) parts.1) c.loop-front.invariant.so_far

pub loop-front-preserved : goal.loop-front-preserved
loop-front-preserved c =
    let front = c.in-Some.front.now in
    let after = c.in-Some.after.now in
    let rest = c.loop-front.rest.now in
    let not-both : ((length after == 0) && registers_cues front) ≡ false = sym c.ends_in_registration.ensures ∙ c.if-ends_in_registration.false in
    let size = front_fits rest front after c.in-Some.ensures in
    let room = c.loop-front.invariant.room in
    let long : length c.put.new.out.items ≡ length c.loop-front.kept.items + length front = ap (λ (xs : List ℕ). length xs) c.put.ensures ∙ length-append c.loop-front.kept.items front in
    record {
      sound = sym (descriptors_fill_more rest front after c.in-Some.ensures) ∙ c.loop-front.invariant.sound;
      so_far = rw c.put.ensures (descriptor_kept c.loop-front.kept.items rest front after _ c.in-Some.ensures c.loop-front.invariant.sound (last_of front after not-both) c.loop-front.invariant.so_far);
      room = omega arith;
    }

pub returns-clause-value : goal.returns-clause-value
returns-clause-value c = kept_all _ _ _ (none_kept c.loop-front.rest.now c.in_default.ensures) c.loop-front.invariant.so_far
