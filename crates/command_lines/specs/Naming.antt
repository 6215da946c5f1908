-- What the subcommands and their options are called by one who calls the program, and which options have to be given.
use Rattle.std.specs.Prelude.{◌≡◌, ℕ, List, [], ◌∷◌, map, Bool, true, false, codes}
use Rattle.command_lines.specs.declared.subcommand.ValueOption.{ValueOption}
use Rattle.command_lines.specs.declared.subcommand.Subcommand.{Subcommand}

-- what an option is called, and whether it has to be given
abbrev pub called : ValueOption → List ℕ × Bool
called o = (o.id.now, o.is_required)

abbrev pub required : List ℕ → List ℕ × Bool
required name = (name, true)

abbrev pub optional : List ℕ → List ℕ × Bool
optional name = (name, false)

-- A SUBCOMMAND has this name and these options, in the order of its help
abbrev pub IsCalled : Subcommand → List ℕ → List (List ℕ × Bool) → Type 0
IsCalled s name options = (s.name.now ≡ name) × (map called s.options.now ≡ options)

-- ---- the options of each

abbrev pub cut_calls : List (List ℕ × Bool)
cut_calls = required (codes "pid") ∷ required (codes "from") ∷ required (codes "length") ∷ optional (codes "in") ∷ optional (codes "out") ∷ []

-- a script or a port is given
abbrev pub inject_calls : List (List ℕ × Bool)
inject_calls = required (codes "network") ∷ required (codes "program") ∷ required (codes "cue-pid") ∷ required (codes "index")
    ∷ optional (codes "script") ∷ optional (codes "listen") ∷ required (codes "out") ∷ optional (codes "events") ∷ []

abbrev pub run_calls : List (List ℕ × Bool)
run_calls = required (codes "network") ∷ required (codes "program") ∷ required (codes "cue-pid") ∷ required (codes "index")
    ∷ optional (codes "script") ∷ optional (codes "listen") ∷ required (codes "adverts") ∷ required (codes "out") ∷ optional (codes "events") ∷ []

abbrev pub splice_calls : List (List ℕ × Bool)
splice_calls = required (codes "network") ∷ required (codes "program") ∷ required (codes "cue-pid") ∷ required (codes "adverts")
    ∷ required (codes "out") ∷ optional (codes "events") ∷ []

abbrev pub services_calls : List (List ℕ × Bool)
services_calls = required (codes "network") ∷ required (codes "services") ∷ optional (codes "script") ∷ optional (codes "listen")
    ∷ required (codes "out") ∷ optional (codes "events") ∷ []

abbrev pub inspect_calls : List (List ℕ × Bool)
inspect_calls = optional (codes "in") ∷ optional (codes "program") ∷ []

abbrev pub plan_calls : List (List ℕ × Bool)
plan_calls = required (codes "network") ∷ required (codes "program") ∷ required (codes "index") ∷ required (codes "adverts")
    ∷ required (codes "breaks") ∷ required (codes "script") ∷ []

-- ---- those of the messages that `request` prints

abbrev pub head_calls : List (List ℕ × Bool)
head_calls = optional (codes "message") ∷ optional (codes "as-index") ∷ optional (codes "mark") ∷ []

abbrev pub start_calls : List (List ℕ × Bool)
start_calls = required (codes "index") ∷ required (codes "event") ∷ required (codes "program-id") ∷ required (codes "pre-roll")
    ∷ required (codes "duration") ∷ optional (codes "avail") ∷ optional (codes "avails") ∷ optional (codes "auto-return") ∷ head_calls

abbrev pub end_calls : List (List ℕ × Bool)
end_calls = required (codes "index") ∷ required (codes "event") ∷ required (codes "pre-roll") ∷ head_calls

abbrev pub cancel_calls : List (List ℕ × Bool)
cancel_calls = required (codes "index") ∷ required (codes "event") ∷ head_calls

-- of a session
abbrev pub session_calls : List (List ℕ × Bool)
session_calls = optional (codes "index") ∷ head_calls
