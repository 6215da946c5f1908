-- What a line says, and what it does not.
use Rattle.std.proofs.Common.{◌≡◌, ℕ, ◌^◌, ◌<◌, List, [], length, Bool, true, false, ◌&&◌, cond, nat_lt, Option, Some, None, refl, sym, ap, ◌∙◌, ◌⊎◌, inl, inr, arith}
use Rattle.std.specs.List.{before_first, after_first}
use Rattle.std.specs.Str.{is_utf8}
use Rattle.decimal_numbers.specs.Numbers.{number_below}
use Rattle.ad_lists.specs.Lists.{is_space}
use Rattle.service_lists.specs.Lists.{ServiceText, joined, said_by, behind_program, behind_cue_pid, behind_index}

-- a path that is not there
no_path : {X : Type 0} (u : Bool) (path : List ℕ) (x : Option X) → path ≡ [] → cond (u && nat_lt 0 (length path)) x None ≡ None
no_path true path x e = ap (λ (p : List ℕ). cond (nat_lt 0 (length p)) x None) e
no_path false path x e = refl

either_way : {X : Type 0} (b : Bool) (x : Option X) → x ≡ None → cond b x None ≡ None
either_way true x e = e
either_way false x e = refl

without_cue_pid : (program index : Option ℕ) (path : List ℕ) → joined program None index path ≡ None
without_cue_pid None index path = refl
without_cue_pid (Some p) index path = refl

without_index : (program cue_pid : Option ℕ) (path : List ℕ) → joined program cue_pid None path ≡ None
without_index None cue_pid path = refl
without_index (Some p) None path = refl
without_index (Some p) (Some c) path = refl

not_so : {X : Type 0} (u b : Bool) (x : Option X) → (u ≡ true → ⊥) → cond (u && b) x None ≡ None
not_so true b x h = absurd (h refl)
not_so false b x h = refl

-- bytes that are no text
pub no_text : (line : List ℕ) → (is_utf8 line ≡ true → ⊥) → said_by line ≡ None
no_text line h = not_so (is_utf8 line) (nat_lt 0 (length (behind_index line))) _ h

-- a text without a first number, a second one, a third one, or a path
pub no_program : (line : List ℕ) → (behind_program line ≡ []) ⊎ (number_below (before_first is_space line) (2 ^ 16) ≡ None) → said_by line ≡ None
no_program line (inl e) = no_path (is_utf8 line) (behind_index line) _ (ap (λ (l : List ℕ). after_first is_space (after_first is_space l)) e)
no_program line (inr e) = either_way _ _ (ap (λ (o : Option ℕ). joined o (number_below (before_first is_space (behind_program line)) 8192)
    (number_below (before_first is_space (behind_cue_pid line)) (2 ^ 16)) (behind_index line)) e)

pub no_cue_pid : (line : List ℕ) → (behind_cue_pid line ≡ []) ⊎ (number_below (before_first is_space (behind_program line)) 8192 ≡ None) → said_by line ≡ None
no_cue_pid line (inl e) = no_path (is_utf8 line) (behind_index line) _ (ap (λ (l : List ℕ). after_first is_space l) e)
no_cue_pid line (inr e) = either_way _ _ (ap (λ (o : Option ℕ). joined (number_below (before_first is_space line) (2 ^ 16)) o
    (number_below (before_first is_space (behind_cue_pid line)) (2 ^ 16)) (behind_index line)) e ∙ without_cue_pid _ _ _)

pub no_index : (line : List ℕ) → (behind_index line ≡ []) ⊎ (number_below (before_first is_space (behind_cue_pid line)) (2 ^ 16) ≡ None) → said_by line ≡ None
no_index line (inl e) = no_path (is_utf8 line) (behind_index line) _ e
no_index line (inr e) = either_way _ _ (ap (λ (o : Option ℕ). joined (number_below (before_first is_space line) (2 ^ 16))
    (number_below (before_first is_space (behind_program line)) 8192) o (behind_index line)) e ∙ without_index _ _ _)

-- what the parts of a line say
pub said : (line : List ℕ) (program cue_pid index : ℕ) (path : List ℕ) → is_utf8 line ≡ true
    → Some program ≡ number_below (before_first is_space line) (2 ^ 16) → Some cue_pid ≡ number_below (before_first is_space (behind_program line)) 8192
    → Some index ≡ number_below (before_first is_space (behind_cue_pid line)) (2 ^ 16) → path ≡ behind_index line → 0 < length path
    → said_by line ≡ Some (record { program = program; cue_pid = cue_pid; index = index; adverts = path })
said line program cue_pid index path text a b d same some =
    let long : nat_lt 0 (length (behind_index line)) ≡ true = grind (arith, some, ap length same) in
    (λ k. cond (text k && long k) (joined (sym a k) (sym b k) (sym d k) (sym same k)) None)
