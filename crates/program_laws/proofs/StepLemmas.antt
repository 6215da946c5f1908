-- One packet more.
use Rattle.std.specs.Option.{option_or}
use Rattle.std.proofs.Common.{◌≡◌, [], ◌∷◌, refl, ap, ◌∙◌, Option, Some, None, if◌then◌else◌}
use Rattle.std.specs.Prelude.{is_some, option_map}
use Rattle.program_follower.specs.declared.purpose.Listed.{Listed}
use Rattle.program_follower.specs.Program.{listed, since_pat, tables, first_map, known_map, program_in, behind_head}
use Rattle.program_follower.proofs.StepLemmas.{known_grows}
use Rattle.program_laws.specs.Laws.{TablesGrow, Stays}

pub tables_grow : TablesGrow
tables_grow = known_grows

-- what was there is what comes first
pub kept : {A B : Type 0} (f : A → B) (x y : Option A) (b : B) → option_map f x ≡ Some b → option_map f (option_or x y) ≡ Some b
kept f None y b h = absurd (cc)
kept f (Some x) y b h = h

pub there : {A B C : Type 0} (f : A → B) (x : Option A) (b : B) (xs ys : C) → option_map f x ≡ Some b → (if is_some x then xs else ys) ≡ xs
there f None b xs ys h = absurd (cc)
there f (Some x) b xs ys h = refl

pub stays : Stays
stays wanted p past = record {
  pid = λ n h. kept (λ (l : Listed). l.pid) (listed wanted past) _ n h;
  program = λ r h. ap (option_map program_in) (tables_grow wanted p past) ∙ kept program_in (known_map wanted past) (first_map (tables wanted p past)) r h;
  since = λ n h. there (λ (l : Listed). l.pid) (listed wanted past) n (p ∷ since_pat wanted past) [] h;
  behind = λ r h. there program_in (known_map wanted past) r (p ∷ behind_head wanted past) [] h;
}
