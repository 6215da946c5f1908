-- What a line of a list of breaks plans. Its words stand one behind another, with white space between them; their case does not matter.
--
--   AT for LENGTH play ADVERT [as EVENT]
--   AT cancel EVENT
--   AT end EVENT
--
-- AT is a span of time behind the first time of the program, or `pts` and the ticks of a time stamp (ISO/IEC 13818-1, 2.4.3.7).
-- What stands behind a `#` is a comment.
use Rattle.std.specs.Prelude.{ℕ, ◌^◌, ◌==◌, List, length, codes, if◌then◌else◌, Option, None, Some, Result, Ok, Err}
use Rattle.std.specs.List.{before_first}
use Rattle.break_lists.specs.Words.{first_word, after_word, same_word, whole_number, span_of}
use Rattle.break_lists.specs.declared.line.At.{At}
use Rattle.break_lists.specs.declared.line.At.TheVariants.{After, Stamp}
use Rattle.break_lists.specs.declared.line.Order.{Order}
use Rattle.break_lists.specs.declared.line.Order.TheVariants as order
use Rattle.break_lists.specs.declared.line.BreakLine.{BreakLine}
use Rattle.break_lists.specs.declared.line.Expected.{Expected}
use Rattle.break_lists.specs.declared.line.Expected.TheVariants as expected

-- what was read is passed on, and else this was expected
abbrev pub read_or : {X Y : Type 0} → Expected → (X → Result Y Expected) → Option X → Result Y Expected
read_or e next None = Err e
read_or e next (Some x) = next x

-- what was read is passed on, and else what was expected before stays
abbrev pub read_then : {X Y : Type 0} → (X → Result Y Expected) → Result X Expected → Result Y Expected
read_then next (Err e) = Err e
read_then next (Ok x) = next x

-- the time at the front
abbrev pub at_of : List ℕ → Result At Expected
at_of text = if same_word (first_word text) (codes "pts")
    then read_or expected.Stamp (λ ticks. Ok (Stamp ticks)) (whole_number (first_word (after_word text)) (2 ^ 33))
    else read_or expected.Time (λ span. Ok (After span)) (span_of (first_word text))

-- and what stands behind it
abbrev pub behind_time : List ℕ → List ℕ
behind_time text = if same_word (first_word text) (codes "pts") then after_word (after_word text) else after_word text

abbrev pub event_number : List ℕ → Result ℕ Expected
event_number word = read_or expected.Event (λ n. Ok n) (whole_number word (2 ^ 32))

-- no word is left
abbrev pub order_ended : Order → List ℕ → Result Order Expected
order_ended o rest = if length (first_word rest) == 0 then Ok o else Err expected.End

-- behind the advertisement: nothing, or `as` and the number of an event
abbrev pub numbered_of : ℕ → ℕ → List ℕ → Result Order Expected
numbered_of long advert text =
    if length (first_word text) == 0 then Ok (order.Play long advert None)
    else if same_word (first_word text) (codes "as")
    then read_then (λ event. order_ended (order.Play long advert (Some event)) (after_word (after_word text))) (event_number (first_word (after_word text)))
    else Err expected.As

-- behind `play`: the number of an advertisement
abbrev pub named_of : ℕ → List ℕ → Result Order Expected
named_of long text = read_or expected.Advert (λ advert. numbered_of long advert (after_word text)) (whole_number (first_word text) (2 ^ 16))

-- behind `for`: the length, and `play`
abbrev pub play_of : List ℕ → Result Order Expected
play_of text = read_or expected.Length
    (λ long. if same_word (first_word (after_word text)) (codes "play") then named_of long (after_word (after_word text)) else Err expected.Play)
    (span_of (first_word text))

-- behind `cancel` and `end`: the number of an event
abbrev pub event_order : (ℕ → Order) → List ℕ → Result Order Expected
event_order make text = read_then (λ event. order_ended (make event) (after_word text)) (event_number (first_word text))

-- behind the time
abbrev pub order_of : List ℕ → Result Order Expected
order_of text =
    if same_word (first_word text) (codes "for") then play_of (after_word text)
    else if same_word (first_word text) (codes "cancel") then event_order (λ e. order.Cancel e) (after_word text)
    else if same_word (first_word text) (codes "end") then event_order (λ e. order.End e) (after_word text)
    else Err expected.Verb

abbrev pub plain_line : List ℕ → Result (Option BreakLine) Expected
plain_line text = read_then (λ at. read_then (λ o. Ok (Some (record { at = at; order = o }))) (order_of (behind_time text))) (at_of text)

-- WHAT A LINE PLANS; nothing where it has no word before a `#`
abbrev pub line_plan : List ℕ → Result (Option BreakLine) Expected
line_plan line = let text = before_first (λ b. b == 35) line in if length (first_word text) == 0 then Ok None else plain_line text
