-- What goes out of the events that run in each stream is what the moves of all streams put, one stream after another.
use Rattle.std.proofs.Common.{◌≡◌, ℕ, ◌+◌, ◌==◌, List, [], ◌∷◌, ◌++◌, map, false, refl, sym, ap, ◌∙◌}
use Rattle.std.specs.Prelude.{ℤ, Option, flat_map}
use Rattle.ts_packet.specs.Numbering.{Step}
use Rattle.psi_tables.specs.declared.stream.Stream.{Stream}
use Rattle.event_table.specs.Standing.{Standing}
use Rattle.ad_library.specs.Advertisements.{Advertisement}
use Rattle.splice_laws.specs.Splicing.{SliceUnit}
use Rattle.output_laws.specs.Output.{Packing}
use Rattle.splice_plans.specs.Counters.{PidSteps, counted_after, out_behind}
use Rattle.splice_plans.specs.declared.plan.Plan.{Plan}
use Rattle.splice_plans.specs.Parts.{running_packets}
use Rattle.splice_plans.specs.Switching.{puts_by}
use Rattle.plan_laws.proofs.PlayedLemmas.{put_on, out-append, steps-other}
use Rattle.splice_playing.proofs.FrameLemmas.{each_running}

-- none of them has this PID, and each has its own
abbrev pub AllDiffer : ℕ → List Stream → Type 0
AllDiffer pid [] = Unit {0}
AllDiffer pid (of ∷ rest) = ((pid == of.pid) ≡ false) × AllDiffer pid rest

abbrev pub AllDistinct : List Stream → Type 0
AllDistinct [] = Unit {0}
AllDistinct (of ∷ rest) = AllDiffer of.pid rest × AllDistinct rest

module _ (filed : ℕ → Option Advertisement) (streams : List Stream) (high : Option ℤ) (packed : Packing) (steps : ℕ → List Step) (xs : List (Standing × Plan)) (es : List Standing) (rule : ℕ → Standing → List SliceUnit) where
  -- in each of these streams, the first of which has this number, what runs puts what the rule says, behind any steps
  abbrev pub AllPut : ℕ → List Stream → Type 0
  AllPut number [] = Unit {0}
  AllPut number (of ∷ rest) =
      ((before : PidSteps) → running_packets filed streams number of high (before of.pid) xs ≡ out_behind packed before (put_on of.pid (flat_map (rule of.pid) es))) × AllPut (number + 1) rest

  -- their counters have counted these steps
  abbrev pub AllBehind : PidSteps → ℕ → List Stream → Type 0
  AllBehind before number [] = Unit {0}
  AllBehind before number (of ∷ rest) = (steps number ≡ before of.pid) × AllBehind before (number + 1) rest

  still-behind : (pid : ℕ) (us : List SliceUnit) (before : PidSteps) (number : ℕ) (rest : List Stream) → AllDiffer pid rest → AllBehind before number rest → AllBehind (counted_after packed before (put_on pid us)) number rest
  still-behind pid us before number [] d b = tt
  still-behind pid us before number (of ∷ rest) d b = (b.0 ∙ sym (steps-other packed pid of.pid before us d.0), still-behind pid us before (number + 1) rest d.1 b.1)

  pub each-puts : (before : PidSteps) (number : ℕ) (rest : List Stream) → AllPut number rest → AllBehind before number rest → AllDistinct rest
      → each_running filed streams high steps xs number rest ≡ out_behind packed before (puts_by (map (λ (s : Stream). s.pid) rest) es rule)
  each-puts before number [] put behind distinct = refl
  each-puts before number (of ∷ rest) put behind distinct =
      let us = flat_map (rule of.pid) es in
      let later = puts_by (map (λ (s : Stream). s.pid) rest) es rule in
      ap (λ s. running_packets filed streams number of high s xs ++ each_running filed streams high steps xs (number + 1) rest) behind.0
      ∙ ap (λ l. l ++ each_running filed streams high steps xs (number + 1) rest) (put.0 before)
      ∙ ap (λ l. out_behind packed before (put_on of.pid us) ++ l)
      (each-puts (counted_after packed before (put_on of.pid us)) (number + 1) rest put.1 (still-behind of.pid us before (number + 1) rest distinct.0 behind.1) distinct.1)
      ∙ sym (out-append packed before (put_on of.pid us) later)
