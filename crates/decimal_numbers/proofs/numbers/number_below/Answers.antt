use Rattle.std.proofs.Common.{◌≤◌, ◌^◌, sym, arith}
use Rattle.std.specs.Str.Parse.{digits_value}
use Rattle.decimal_numbers.specs.Numbers.{is_number}
use Rattle.decimal_numbers.proofs.NumberLemmas.{read_number, refused_number, below_limit, past_limit}
use Rattle.decimal_numbers.proofs.numbers.number_below.Goals as goal

pub returns-then-number-limit : goal.returns-then-number-limit
returns-then-number-limit c =
    let text = c.args.text.now in
    let right = sym c.if-not-is_number.ensures in
    below_limit (is_number text) c.in-Ok.number (digits_value 10 text) c.args.limit right (read_number text c.in-Ok.number right c.in-Ok.ensures.value.0) c.if-number-limit.true

pub returns-else-number-limit : goal.returns-else-number-limit
returns-else-number-limit c =
    let text = c.args.text.now in
    past_limit (is_number text) (digits_value 10 text) c.args.limit
    (omega (arith, read_number text c.in-Ok.number (sym c.if-not-is_number.ensures) c.in-Ok.ensures.value.0, c.if-number-limit.false))

pub returns-in-Err : goal.returns-in-Err
returns-in-Err c =
    let text = c.args.text.now in
    let big : 2 ^ 64 ≤ digits_value 10 text = refused_number text (sym c.if-not-is_number.ensures) c.in-Err.ensures.value.0 in
    past_limit (is_number text) (digits_value 10 text) c.args.limit (omega (arith, big, c.ranges.limit.fits))
