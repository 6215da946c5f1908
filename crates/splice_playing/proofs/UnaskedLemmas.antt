-- What stands for a past stands for it too where it is open what is out.
use Rattle.std.proofs.Common.{ℕ, List}
use Rattle.splice_plans.specs.Counters.{PidSteps}
use Rattle.splice_plans.specs.Switching.{Setting}
use Rattle.splice_playing.specs.declared.playing.Playing.{Playing}
use Rattle.splice_playing.specs.Relations.{PlaysBy, unasked}

pub plays-unasked : (r : Playing) (k : Setting) (past : List (List ℕ)) (steps : PidSteps) → PlaysBy r k past steps → PlaysBy (unasked r) k past steps
plays-unasked r k past steps h = record {
  events = h.events;
  plans = h.plans;
  streams = h.streams;
  leaving = h.leaving;
  forgotten = h.forgotten;
  all_out = λ out. let is = out.1 in absurd (cc);
}
