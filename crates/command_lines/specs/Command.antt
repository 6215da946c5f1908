-- Which command lines are refused, and what is named.
use Rattle.std.specs.Prelude.{◌≡◌, ℕ, ◌^◌, List, [], Bool, true, false, ◌&&◌, ◌||◌, Option, Some, None, IsSome, codes}
use Rattle.decimal_numbers.specs.Numbers.{number_below, number_within}
use Rattle.run_ends.specs.Ends.{name_of}
use Rattle.run_ends.specs.declared.ends.End.{End}
use Rattle.run_ends.specs.declared.ends.End.TheVariants.{Lines, Standard, File}
use Rattle.command_lines.specs.declared.inject_options.Asking.{Asking as Asked}
use Rattle.command_lines.specs.declared.inject_options.Asking.TheVariants as asking
use Rattle.command_lines.specs.declared.inject_options.BadInject.{BadInject}
use Rattle.command_lines.specs.declared.inject_options.BadInject.TheVariants.{Number, Asking, Input, ListInput, Events}
use Rattle.command_lines.specs.declared.splice_options.BadSplice.{BadSplice}
use Rattle.command_lines.specs.declared.splice_options.BadSplice.TheVariants as splice
use Rattle.command_lines.specs.declared.command.NumberOption.{NumberOption}
use Rattle.command_lines.specs.declared.command.NumberOption.TheVariants.{Pid, From, Length, Program, CuePid, Index, Port}

-- the option is the first whose text is no number in its range, of a PID, a start and a length
abbrev pub IsRefused : NumberOption → List ℕ → List ℕ → List ℕ → Type 0
IsRefused Pid pid from length = number_below pid 8192 ≡ None
IsRefused From pid from length = IsSome (number_below pid 8192) × (number_below from (2 ^ 33) ≡ None)
IsRefused Length pid from length =
    IsSome (number_below pid 8192) × IsSome (number_below from (2 ^ 33)) × (number_below length (2 ^ 32) ≡ None)
IsRefused Program pid from length = ⊥
IsRefused CuePid pid from length = ⊥
IsRefused Index pid from length = ⊥
IsRefused Port pid from length = ⊥

-- likewise, of a program, a PID for its cues and the index of its messages; PIDs below 16 are reserved, and 8191 is
-- that of null packets (ISO/IEC 13818-1, 2.4.3.3)
abbrev pub IsRefusedOf : NumberOption → List ℕ → List ℕ → List ℕ → Type 0
IsRefusedOf Program program cue_pid index = number_within program 1 (2 ^ 16) ≡ None
IsRefusedOf CuePid program cue_pid index =
    IsSome (number_within program 1 (2 ^ 16)) × (number_within cue_pid 16 8191 ≡ None)
IsRefusedOf Index program cue_pid index =
    IsSome (number_within program 1 (2 ^ 16)) × IsSome (number_within cue_pid 16 8191)
    × (number_below index (2 ^ 16) ≡ None)
IsRefusedOf Pid program cue_pid index = ⊥
IsRefusedOf From program cue_pid index = ⊥
IsRefusedOf Length program cue_pid index = ⊥
IsRefusedOf Port program cue_pid index = ⊥

-- and of the program and the PID of its cues, as `splice` has them
abbrev pub IsRefusedOfSplice : NumberOption → List ℕ → List ℕ → Type 0
IsRefusedOfSplice Program program cue_pid = number_within program 1 (2 ^ 16) ≡ None
IsRefusedOfSplice CuePid program cue_pid =
    IsSome (number_within program 1 (2 ^ 16)) × (number_within cue_pid 16 8191 ≡ None)
IsRefusedOfSplice Pid program cue_pid = ⊥
IsRefusedOfSplice From program cue_pid = ⊥
IsRefusedOfSplice Length program cue_pid = ⊥
IsRefusedOfSplice Index program cue_pid = ⊥
IsRefusedOfSplice Port program cue_pid = ⊥

-- of these numbers, the text of the one that the option names
abbrev pub shown : NumberOption → List ℕ → List ℕ → List ℕ → List ℕ
shown Pid pid from length = pid
shown From pid from length = from
shown Length pid from length = length
shown Program pid from length = []
shown CuePid pid from length = []
shown Index pid from length = []
shown Port pid from length = []

abbrev pub shown_of : NumberOption → List ℕ → List ℕ → List ℕ → List ℕ
shown_of Program program cue_pid index = program
shown_of CuePid program cue_pid index = cue_pid
shown_of Index program cue_pid index = index
shown_of Pid program cue_pid index = []
shown_of From program cue_pid index = []
shown_of Length program cue_pid index = []
shown_of Port program cue_pid index = []

-- the option that a refusal of `inject` or `run` names
abbrev pub refused_option : BadInject → Option NumberOption
refused_option (Number bad) = Some bad.option
refused_option Asking = None
refused_option Input = None
refused_option ListInput = None
refused_option Events = None

-- and the text that it shows
abbrev pub refused_text : BadInject → Option (List ℕ)
refused_text (Number bad) = Some bad.text.now
refused_text Asking = None
refused_text Input = None
refused_text ListInput = None
refused_text Events = None

-- and one of `splice`
abbrev pub refused_of_splice : BadSplice → Option NumberOption
refused_of_splice (splice.Number bad) = Some bad.option
refused_of_splice splice.Input = None
refused_of_splice splice.Events = None

abbrev pub refused_text_of_splice : BadSplice → Option (List ℕ)
refused_text_of_splice (splice.Number bad) = Some bad.text.now
refused_text_of_splice splice.Input = None
refused_text_of_splice splice.Events = None

-- what the end is called where the messages come from
abbrev pub asking_name : Asked → List ℕ
asking_name (asking.Script end) = name_of (codes "standard input") end
asking_name (asking.Port port) = codes "the port"

-- ---- standard input

abbrev pub is_standard : End → Bool
is_standard Lines = false
is_standard Standard = true
is_standard (File path) = false

-- the messages come from standard input
abbrev pub is_asked_there : Asked → Bool
is_asked_there (asking.Script end) = is_standard end
is_asked_there (asking.Port port) = false

-- the list does, where there is one
abbrev pub is_listed_there : Option End → Bool
is_listed_there None = false
is_listed_there (Some end) = is_standard end

-- two of three are so
abbrev pub are_two : Bool → Bool → Bool → Bool
are_two a b c = (a && b) || (c && (a || b))

-- which of them are so, where one is refused for it
abbrev pub AreShared : End → Asked → Option End → BadInject → Type 0
AreShared network asked adverts (Number bad) = ⊥
AreShared network asked adverts Asking = ⊥
AreShared network asked adverts Input = (is_standard network ≡ true) × (is_asked_there asked ≡ true)
AreShared network asked adverts ListInput =
    (is_listed_there adverts ≡ true) × ((is_standard network || is_asked_there asked) ≡ true)
AreShared network asked adverts Events = ⊥
