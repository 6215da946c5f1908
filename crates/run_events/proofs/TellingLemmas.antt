-- Lines told one after another, and how many of them say what became of a break.
use Rattle.std.proofs.Common.{◌≡◌, ℕ, suc, ◌+◌, List, [], ◌∷◌, ◌++◌, map, refl, sym, ap, subst, ◌∙◌, arith}
use Rattle.std.proofs.lemmas.List.{map-append}
use Rattle.run_events.specs.declared.occurrence.What.{What}
use Rattle.run_events.specs.declared.occurrence.Occurrence.{Occurrence}
use Rattle.run_events.specs.declared.watch.Site.{Site}
use Rattle.run_events.specs.Telling.{at, Tells, lines_that, tells_played, tells_not_fitted, tells_unconditioned}

pub lines_behind : (kind : What → ℕ) (xs ys : List What) → lines_that kind (xs ++ ys) ≡ lines_that kind xs + lines_that kind ys
lines_behind kind [] ys = omega arith
lines_behind kind (x ∷ xs) ys = let h = lines_behind kind xs ys in omega (arith, h)

-- nothing is told
pub tells_nothing : {W : Type 0} (hears : W → List Occurrence → W → Type 0) (site : Site) (w : W) → hears w [] w → Tells hears site w 0 0 0 w
tells_nothing hears site w h = record { lines = []; heard = h; are_played = refl; are_not_fitted = refl; are_unconditioned = refl }

-- this line is told
pub tells_one : {W : Type 0} (hears : W → List Occurrence → W → Type 0) (site : Site) (v w : W) (what : What) → hears v (at site what ∷ []) w
    → Tells hears site v (tells_played what) (tells_not_fitted what) (tells_unconditioned what) w
tells_one hears site v w what h = record { lines = what ∷ []; heard = h; are_played = omega arith; are_not_fitted = omega arith; are_unconditioned = omega arith }

-- one after the other
pub tells_then : {W : Type 0} (hears : W → List Occurrence → W → Type 0)
    → ((s t u : W) (xs ys : List Occurrence) → hears s xs t → hears t ys u → hears s (xs ++ ys) u)
    → (site : Site) (u v w : W) (a b c d e f : ℕ) → Tells hears site u a b c v → Tells hears site v d e f w
    → Tells hears site u (a + d) (b + e) (c + f) w
tells_then hears trans site u v w a b c d e f h k = record {
  lines = h.lines ++ k.lines;
  heard = subst (λ ls. hears u ls w) (sym (map-append (at site) h.lines k.lines)) (trans u v w _ _ h.heard k.heard);
  are_played = let p = lines_behind tells_played h.lines k.lines in omega (arith, p, h.are_played, k.are_played);
  are_not_fitted = let p = lines_behind tells_not_fitted h.lines k.lines in omega (arith, p, h.are_not_fitted, k.are_not_fitted);
  are_unconditioned = let p = lines_behind tells_unconditioned h.lines k.lines in omega (arith, p, h.are_unconditioned, k.are_unconditioned);
}

-- the same, by other numbers
pub tells_as : {W : Type 0} (hears : W → List Occurrence → W → Type 0) (site : Site) (v w : W) (a b c d e f : ℕ) → a ≡ d → b ≡ e → c ≡ f
    → Tells hears site v a b c w → Tells hears site v d e f w
tells_as hears site v w a b c d e f p q r h = record {
  lines = h.lines;
  heard = h.heard;
  are_played = h.are_played ∙ p;
  are_not_fitted = h.are_not_fitted ∙ q;
  are_unconditioned = h.are_unconditioned ∙ r;
}

-- nothing of breaks, and then nothing of breaks
pub tells_quietly : {W : Type 0} (hears : W → List Occurrence → W → Type 0)
    → ((s t u : W) (xs ys : List Occurrence) → hears s xs t → hears t ys u → hears s (xs ++ ys) u)
    → (site : Site) (u v w : W) → Tells hears site u 0 0 0 v → Tells hears site v 0 0 0 w → Tells hears site u 0 0 0 w
tells_quietly hears trans site u v w h k =
    tells_as hears site u w (0 + 0) (0 + 0) (0 + 0) 0 0 0 (omega arith) (omega arith) (omega arith) (tells_then hears trans site u v w 0 0 0 0 0 0 h k)

-- nothing of breaks, and then what became of them; and the other way round
pub tells_after : {W : Type 0} (hears : W → List Occurrence → W → Type 0)
    → ((s t u : W) (xs ys : List Occurrence) → hears s xs t → hears t ys u → hears s (xs ++ ys) u)
    → (site : Site) (u v w : W) (a b c : ℕ) → Tells hears site u 0 0 0 v → Tells hears site v a b c w → Tells hears site u a b c w
tells_after hears trans site u v w a b c h k =
    tells_as hears site u w (0 + a) (0 + b) (0 + c) a b c (omega arith) (omega arith) (omega arith) (tells_then hears trans site u v w 0 0 0 a b c h k)

pub tells_before : {W : Type 0} (hears : W → List Occurrence → W → Type 0)
    → ((s t u : W) (xs ys : List Occurrence) → hears s xs t → hears t ys u → hears s (xs ++ ys) u)
    → (site : Site) (u v w : W) (a b c : ℕ) → Tells hears site u a b c v → Tells hears site v 0 0 0 w → Tells hears site u a b c w
tells_before hears trans site u v w a b c h k =
    tells_as hears site u w (a + 0) (b + 0) (c + 0) a b c (omega arith) (omega arith) (omega arith) (tells_then hears trans site u v w a b c 0 0 0 h k)
