-- What lists of moves bring of a network.
use Rattle.std.proofs.Common.{◌≡◌, ℕ, List, [], ◌∷◌, ◌++◌, refl, ap, ◌∙◌}
use Rattle.std.specs.Prelude.{flat_map, map}
use Rattle.event_table.specs.Standing.{Standing}
use Rattle.splice_laws.specs.Splicing.{SliceUnit}
use Rattle.output_laws.specs.Output.{Move, Keep, Leave, Put, network}
use Rattle.splice_plans.specs.Switching.{puts_by}

pub network-append : (a b : List Move) → network (a ++ b) ≡ network a ++ network b
network-append [] b = refl
network-append (Keep p ∷ a) b = ap (λ l. p ∷ l) (network-append a b)
network-append (Leave p ∷ a) b = ap (λ l. p ∷ l) (network-append a b)
network-append (Put q u ∷ a) b = network-append a b

pub none-append : (a b : List Move) → network a ≡ [] → network b ≡ [] → network (a ++ b) ≡ []
none-append a b h k = network-append a b ∙ ap (λ l. l ++ network b) h ∙ k

pub none-on : (pid : ℕ) (us : List SliceUnit) → network (map (λ (u : SliceUnit). Put pid u) us) ≡ []
none-on pid [] = refl
none-on pid (u ∷ us) = none-on pid us

pub none-put : (pids : List ℕ) (es : List Standing) (rule : ℕ → Standing → List SliceUnit) → network (puts_by pids es rule) ≡ []
none-put [] es rule = refl
none-put (pid ∷ pids) es rule = none-append (map (λ (u : SliceUnit). Put pid u) (flat_map (rule pid) es)) (puts_by pids es rule) (none-on pid (flat_map (rule pid) es)) (none-put pids es rule)
