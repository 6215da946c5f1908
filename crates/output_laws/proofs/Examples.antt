-- A packing that meets the premise: units of 184 bytes, each of one packet.
use Rattle.std.proofs.Common.{◌≡◌, ℕ, ◌+◌, ◌/◌, ◌%◌, ◌<◌, List, [], ◌∷◌, true, Some, refl, ◌∙◌, arith}
use Rattle.std.proofs.lemmas.List.{append-nil}
use Rattle.ts_packet.specs.Fields.{in_error, unit_start, pid_of, number, payload, on, payload_on, bytes}
use Rattle.splice_laws.specs.Splicing.{SliceUnit}
use Rattle.output_laws.specs.Output.{Put, Packing, Sound}

abbrev one : ℕ → List ℕ → List ℕ
one n bs = 71 ∷ 65 ∷ 0 ∷ (16 + n) ∷ bs

abbrev single : Packing
single pid u n = one n u.payload ∷ []

control : (n : ℕ) → n < 16 → (16 + n) / 16 % 4 ≡ 1
control n h = omega arith

one-payload : (n : ℕ) (bs : List ℕ) → n < 16 → payload (one n bs) ≡ Some bs
unfolding payload in_error
one-payload n bs h = rw (control n h) refl

one-on : (n : ℕ) (bs : List ℕ) → n < 16 → payload_on 256 (one n bs) ≡ true
unfolding payload_on on in_error pid_of
one-on n bs h = rw (one-payload n bs h) refl

one-number : (n : ℕ) (bs : List ℕ) → n < 16 → number (one n bs) ≡ n
unfolding number
one-number n bs h = omega arith

one-start : (n : ℕ) (bs : List ℕ) → unit_start (one n bs) ≡ true
unfolding unit_start
one-start n bs = refl

one-bytes : (n : ℕ) (bs : List ℕ) → n < 16 → bytes (one n bs) ≡ bs
unfolding bytes
one-bytes n bs h = rw (one-payload n bs h) refl

single_sound : (u : SliceUnit) → Sound single (Put 256 u)
single_sound u n h = record {
  on_pid = (one-on n u.payload h, tt);
  starts = (one-start n u.payload, tt);
  counted = (one-number n u.payload h, tt);
  joined = append-nil (bytes (one n u.payload)) ∙ one-bytes n u.payload h;
}
