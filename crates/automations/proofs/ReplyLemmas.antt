-- The line of a reply, as it is put together in pieces of 64 bytes and written out.
use Rattle.std.proofs.Common.{◌≡◌, ℕ, ◌+◌, ◌-◌, ◌*◌, ◌≤◌, List, [], ◌++◌, length, take, drop, Option, ap, sym, ◌∙◌, arith, append_assoc, take-append-drop}
use Rattle.std.proofs.lemmas.List.{append-nil, drop_all, length-take-le}
use Rattle.std.specs.Io.KnownBytes.{Appends}
use Rattle.std.proofs.KnownBytes.{Appends-trans}
use Rattle.hex_digits.specs.Digits.{digits_of}
use Rattle.hex_digits.proofs.DigitLemmas.{digits_of-append}

-- so much of a text was written out; so many pairs of the piece that is being filled follow it, and then the digits of these bytes
pub record IsOnTheWay (old new : Option (List ℕ)) (line : List ℕ) (filled : ℕ) (rest text : List ℕ) : Type 0 where
  pub out : List ℕ
  pub appended : Appends old new out
  pub text_is : text ≡ out ++ (take (2 * filled) line ++ digits_of rest)
  pub few : filled ≤ 3

-- a piece was filled with the digits of the first bytes that were left, and written out
pub piece_written : (old mid new : Option (List ℕ)) (line full : List ℕ) (filled : ℕ) (rest first behind text : List ℕ) →
    IsOnTheWay old mid line filled rest text → length line ≡ 64 → 32 - filled ≤ length rest →
    first ≡ take (32 - filled) rest → behind ≡ drop (32 - filled) rest →
    full ≡ take (2 * filled) line ++ digits_of first ++ drop (2 * (filled + length first)) line →
    Appends mid new full → IsOnTheWay old new full 0 behind text
piece_written old mid new line full filled rest first behind text h size inside first_is behind_is spelled written =
    let few = h.few in
    let front : List ℕ = take (2 * filled) line in
    let count : length first ≡ 32 - filled = ap length first_is ∙ length-take-le (32 - filled) rest inside in
    let none : drop (2 * (filled + length first)) line ≡ [] = drop_all (2 * (filled + length first)) line (omega (arith, count, few)) in
    let full_is : full ≡ front ++ digits_of first = spelled ∙ ap (λ r. front ++ digits_of first ++ r) none ∙ append-nil (front ++ digits_of first) in
    let both : rest ≡ first ++ behind =
    sym (take-append-drop (32 - filled) rest) ∙ ap (λ r. r ++ drop (32 - filled) rest) (sym first_is) ∙ ap (λ r. first ++ r) (sym behind_is) in
    let digits : front ++ digits_of rest ≡ full ++ digits_of behind =
    ap (λ r. front ++ digits_of r) both ∙ ap (λ r. front ++ r) (digits_of-append first behind)
    ∙ sym (append_assoc front (digits_of first) (digits_of behind)) ∙ ap (λ r. r ++ digits_of behind) (sym full_is) in
    record {
      out = h.out ++ full;
      appended = Appends-trans old mid new h.out full h.appended written;
      text_is = h.text_is ∙ ap (λ r. h.out ++ r) digits ∙ sym (append_assoc h.out full (digits_of behind));
      few = omega arith;
    }
