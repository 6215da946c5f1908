-- Words between spaces, and the packets that they spell.
use Rattle.std.proofs.Common.{◌≡◌, ℕ, zero, suc, ◌+◌, ◌<◌, List, [], ◌∷◌, ◌++◌, Bool, true, false, nat_eq, length, take, drop, get_or, Option, None, Some, refl, sym, ap, ◌∙◌, append_assoc, add-one, eqb-true, arith}
use Rattle.hex_digits.proofs.DigitLemmas.{behind}
use Rattle.conformance.specs.Sections.{before_word, words_of, packet_of, packet_before, packets_in}

-- ---- the first word

no_space : (b : Bool) (c : ℕ) (rest : List ℕ) → nat_eq c 32 ≡ b → (c ≡ 32 → ⊥) → words_of (c ∷ rest) ≡ before_word c (words_of rest)
no_space true c rest e ne = absurd (ne (eqb-true c 32 e))
no_space false c rest e ne = simp e

pub cut_at : (i : ℕ) (xs : List ℕ) → i < length xs → ((k : ℕ) → k < i → get_or xs k 0 ≡ 32 → ⊥) → get_or xs i 0 ≡ 32
    → words_of xs ≡ take i xs ∷ words_of (drop (suc i) xs)
cut_at i [] lt ne e = absurd (omega arith)
cut_at zero (x ∷ xs) lt ne e = rw e refl
cut_at (suc i) (x ∷ xs) lt ne e =
    let first = no_space (nat_eq x 32) x xs refl (ne 0 (omega arith)) in
    let rest = cut_at i xs (omega arith) (λ k h. ne (suc k) (omega arith)) e in
    first ∙ ap (before_word x) rest

pub cut_here : (i : ℕ) (xs : List ℕ) → i < length xs → ((k : ℕ) → k < i → get_or xs k 0 ≡ 32 → ⊥) → get_or xs i 0 ≡ 32
    → words_of xs ≡ take i xs ∷ words_of (drop (i + 1) xs)
cut_here i xs lt ne e = rw add-one (cut_at i xs lt ne e)

pub cut_nowhere : (xs : List ℕ) → ((k : ℕ) → k < length xs → get_or xs k 0 ≡ 32 → ⊥) → words_of xs ≡ xs ∷ []
cut_nowhere [] ne = refl
cut_nowhere (x ∷ xs) ne =
    let first = no_space (nat_eq x 32) x xs refl (ne 0 (omega arith)) in
    first ∙ ap (before_word x) (cut_nowhere xs (λ k h. ne (suc k) (omega arith)))

-- ---- packets behind others

pub behind-packet_before : (before : List (List ℕ)) (p : List ℕ) (packets : Option (List (List ℕ)))
    → behind (before ++ p ∷ []) packets ≡ behind before (packet_before (Some p) packets)
behind-packet_before before p None = refl
behind-packet_before before p (Some ps) = ap Some (append_assoc before (p ∷ []) ps)

-- a word more was read, and its packet stands behind the others
pub packet_more : (old new : List (List ℕ)) (p word : List ℕ) (words left : List (List ℕ)) (all : Option (List (List ℕ))) → packet_of word ≡ Some p
    → new ≡ old ++ p ∷ [] → left ≡ word ∷ words → behind old (packets_in left) ≡ all → behind new (packets_in words) ≡ all
packet_more old new p word words left all e grown more so_far =
    ap (λ l. behind l (packets_in words)) grown ∙ behind-packet_before old p (packets_in words)
    ∙ ap (λ o. behind old (packet_before o (packets_in words))) (sym e) ∙ ap (λ l. behind old (packets_in l)) (sym more) ∙ so_far
