use Rattle.std.proofs.Common.{◌≡◌, ℕ, List, [], ◌∷◌, ◌++◌, Option, None, Some, refl, ap, sym, ◌∙◌, append_assoc, take}
use Rattle.std.proofs.lemmas.List.{append-nil}
use Rattle.std.specs.Io.KnownBytes.{Appends}
use Rattle.ts_packet.specs.Packets.{bytes_of}
use Rattle.ts_packet.specs.Sinks.{Written, FailsToWrite}

pub bytes_of-append : (ps qs : List (List ℕ)) → bytes_of (ps ++ qs) ≡ bytes_of ps ++ bytes_of qs
bytes_of-append [] qs = refl
bytes_of-append (p ∷ ps) qs = ap (λ l. p ++ l) (bytes_of-append ps qs) ∙ sym (append_assoc p (bytes_of ps) (bytes_of qs))

pub bytes_of-snoc : (ps : List (List ℕ)) (p : List ℕ) → bytes_of (ps ++ p ∷ []) ≡ bytes_of ps ++ p
bytes_of-snoc ps p = bytes_of-append ps (p ∷ []) ∙ ap (λ l. bytes_of ps ++ l) (append-nil p)

-- where known bytes grow
pub appended : (a b : Option (List ℕ)) (xs ys : List ℕ) → a ≡ Some xs → Appends a b ys → b ≡ Some (xs ++ ys)
appended (Some x) (Some y) xs ys e h = let f : x ≡ xs = cc in rw (h, f) refl
appended (Some x) None xs ys e h = absurd h
appended None b xs ys e h = absurd (cc)

pub Written-more : (a b start : Option (List ℕ)) (ps : List (List ℕ)) (p : List ℕ) → Written a start ps → Appends a b p → Written b start (ps ++ p ∷ [])
Written-more a b None ps p h k = tt
Written-more a b (Some bs) ps p h k = appended a b _ _ h k ∙ ap Some (append_assoc bs (bytes_of ps) p ∙ ap (λ l. bs ++ l) (sym (bytes_of-snoc ps p)))

pub Written-part : (a b start : Option (List ℕ)) (ps : List (List ℕ)) (p : List ℕ) (n : ℕ) → Written a start ps → Appends a b (take n p) → FailsToWrite b start ps p
Written-part a b None ps p n h k = (n, tt)
Written-part a b (Some bs) ps p n h k = (n, appended a b _ _ h k ∙ ap Some (append_assoc bs (bytes_of ps) (take n p)))
