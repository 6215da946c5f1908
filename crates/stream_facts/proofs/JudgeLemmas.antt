-- A judge behind one packet more.
use Rattle.std.specs.Option.{option_or}
use Rattle.std.specs.Prelude.{is_some}
use Rattle.std.proofs.Common.{◌≡◌, List, ◌∷◌, refl, sym, ap, ◌∙◌, Option, None, Some, false}
use Rattle.program_follower.specs.declared.purpose.Purpose.{Purpose}
use Rattle.stream_facts.specs.declared.facts.StreamFault.{StreamFault}
use Rattle.stream_facts.specs.declared.judge.Judge.{Judge}
use Rattle.stream_facts.specs.Judging.{Fed, Judged, Meets, stream_fault_at, first_wrong}

pub nothing_found : (o : Option StreamFault) → is_some o ≡ false → o ≡ None
nothing_found None h = refl
nothing_found (Some f) h = absurd (cc)

-- where nothing was wrong before, what is wrong with the packet is the first
pub judged_more : (new : Judge) (c : Purpose) (f : Fed) (past : List Fed) → first_wrong c past ≡ None → new.damage ≡ f.damage
    → Meets new.verdict new.follower c f past → Judged new c (f ∷ past)
judged_more new c f past none damage m = record {
  verdict = m.0 ∙ sym (ap (λ o. option_or o (stream_fault_at c f past)) none);
  good = λ e. record { follows = m.1 e; damage = damage };
}
