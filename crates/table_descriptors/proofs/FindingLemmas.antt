-- What is found among descriptors and entries, one after another.
use Rattle.std.proofs.Common.{◌≡◌, ℕ, ◌<◌, List, [], ◌∷◌, length, true, false, Option, Some, None, refl, sym, ap, ◌∙◌}
use Rattle.std.specs.Prelude.{◌==◌, if◌then◌else◌, option_map}
use Rattle.psi_tables.specs.Runs.{things_of}
use Rattle.psi_tables.specs.Descriptors.{Descriptor, descriptor_at}
use Rattle.psi_tables.specs.Streams.{Entry, entry_at, pid_in}
use Rattle.psi_tables.proofs.RunLemmas.{Shortens, things_more, things_ended}
use Rattle.psi_tables.proofs.DescriptorLemmas.{descriptor_shortens}
use Rattle.psi_tables.proofs.EntryLemmas.{entry_shortens}
use Rattle.table_descriptors.specs.Finding.{body_of, body_in, info_on, shown_descriptor, shown_entry}

some_same : (a b : ℕ × List ℕ × List ℕ) → ◌≡◌ {A = Option (ℕ × List ℕ × List ℕ)} (Some a) (Some b) → a ≡ b
some_same a b h = cc

-- what is shown of a thing at the front, by its three parts
module _ {A : Type 0} (show : A × List ℕ → ℕ × List ℕ × List ℕ) (at : List ℕ → Option (A × List ℕ)) where
  pub record Front (bytes : List ℕ) (key : ℕ) (part rest : List ℕ) : Type 0 where
    pub thing : A × List ℕ
    pub taken : at bytes ≡ Some thing
    pub key-is : (show thing).0 ≡ key
    pub part-is : (show thing).1 ≡ part
    pub rest-is : (show thing).2 ≡ rest

  front_by : (bytes : List ℕ) (r : Option (A × List ℕ)) (key : ℕ) (part rest : List ℕ) → at bytes ≡ r → Some (key, part, rest) ≡ option_map show r → Front bytes key part rest
  front_by bytes None key part rest e h = absurd cc
  front_by bytes (Some x) key part rest e h =
      let same = some_same (key, part, rest) (show x) h in
      record {
        thing = x;
        taken = e;
        key-is = sym (ap (λ (t : ℕ × List ℕ × List ℕ). t.0) same);
        part-is = sym (ap (λ (t : ℕ × List ℕ × List ℕ). t.1) same);
        rest-is = sym (ap (λ (t : ℕ × List ℕ × List ℕ). t.2) same);
      }

  pub front : (bytes : List ℕ) (key : ℕ) (part rest : List ℕ) → Some (key, part, rest) ≡ option_map show (at bytes) → Front bytes key part rest
  front bytes key part rest h = front_by bytes (at bytes) key part rest refl h

  none_by : (r : Option (A × List ℕ)) → None ≡ option_map show r → r ≡ None
  none_by None h = refl
  none_by (Some x) h = absurd cc

  pub none : (bytes : List ℕ) → None ≡ option_map show (at bytes) → at bytes ≡ None
  none bytes h = none_by (at bytes) h

-- ---- descriptors

abbrev descriptor_front : (bytes : List ℕ) (tag : ℕ) (body rest : List ℕ) → Some (tag, body, rest) ≡ option_map shown_descriptor (descriptor_at bytes) → Front shown_descriptor descriptor_at bytes tag body rest
descriptor_front bytes tag body rest h = front shown_descriptor descriptor_at bytes tag body rest h

more_descriptors : (bytes : List ℕ) (tag : ℕ) (body rest : List ℕ) → Some (tag, body, rest) ≡ option_map shown_descriptor (descriptor_at bytes)
    → (d : Descriptor) × (things_of descriptor_at bytes ≡ d ∷ things_of descriptor_at rest) × (d.tag ≡ tag) × (d.body ≡ body)
more_descriptors bytes tag body rest h =
    let f = descriptor_front bytes tag body rest h in
    (f.thing.0, (things_more descriptor_at descriptor_shortens bytes f.thing.0 f.thing.1 f.taken ∙ ap (λ (r : List ℕ). f.thing.0 ∷ things_of descriptor_at r) f.rest-is), f.key-is, f.part-is)

pub descriptor_shorter : (bytes : List ℕ) (tag : ℕ) (body rest : List ℕ) → Some (tag, body, rest) ≡ option_map shown_descriptor (descriptor_at bytes) → length rest < length bytes
descriptor_shorter bytes tag body rest h =
    let f = descriptor_front bytes tag body rest h in
    let short = descriptor_shortens bytes f.thing.0 f.thing.1 f.taken in
    rw (← f.rest-is) short

module _ (wanted : ℕ) where
  pub body_here : (bytes : List ℕ) (tag : ℕ) (body rest : List ℕ) → Some (tag, body, rest) ≡ option_map shown_descriptor (descriptor_at bytes) → (tag == wanted) ≡ true
      → body_in wanted bytes ≡ Some body
  body_here bytes tag body rest h t =
      let m = more_descriptors bytes tag body rest h in
      let test : (m.0.tag == wanted) ≡ true = rw m.2 t in
      rw (m.1, test, m.3) refl

  pub body_later : (bytes : List ℕ) (tag : ℕ) (body rest : List ℕ) → Some (tag, body, rest) ≡ option_map shown_descriptor (descriptor_at bytes) → (tag == wanted) ≡ false
      → body_in wanted bytes ≡ body_in wanted rest
  body_later bytes tag body rest h t =
      let m = more_descriptors bytes tag body rest h in
      let test : (m.0.tag == wanted) ≡ false = rw m.2 t in
      rw (m.1, test) refl

  pub body_never : (bytes : List ℕ) → None ≡ option_map shown_descriptor (descriptor_at bytes) → body_in wanted bytes ≡ None
  body_never bytes h = rw (things_ended descriptor_at descriptor_shortens bytes (none shown_descriptor descriptor_at bytes h)) refl

-- ---- entries

more_entries : (bytes : List ℕ) (pid : ℕ) (info rest : List ℕ) → Some (pid, info, rest) ≡ option_map shown_entry (entry_at bytes)
    → (e : Entry) × (things_of entry_at bytes ≡ e ∷ things_of entry_at rest) × (pid_in e.pid_field ≡ pid) × (e.info ≡ info)
more_entries bytes pid info rest h =
    let f = front shown_entry entry_at bytes pid info rest h in
    (f.thing.0, (things_more entry_at entry_shortens bytes f.thing.0 f.thing.1 f.taken ∙ ap (λ (r : List ℕ). f.thing.0 ∷ things_of entry_at r) f.rest-is), f.key-is, f.part-is)

pub entry_shorter : (bytes : List ℕ) (pid : ℕ) (info rest : List ℕ) → Some (pid, info, rest) ≡ option_map shown_entry (entry_at bytes) → length rest < length bytes
entry_shorter bytes pid info rest h =
    let f = front shown_entry entry_at bytes pid info rest h in
    let short = entry_shortens bytes f.thing.0 f.thing.1 f.taken in
    rw (← f.rest-is) short

module _ (wanted : ℕ) where
  pub info_here : (bytes : List ℕ) (pid : ℕ) (info rest : List ℕ) → Some (pid, info, rest) ≡ option_map shown_entry (entry_at bytes) → (pid == wanted) ≡ true
      → info_on wanted (things_of entry_at bytes) ≡ Some info
  info_here bytes pid info rest h t =
      let m = more_entries bytes pid info rest h in
      let test : (pid_in m.0.pid_field == wanted) ≡ true = rw m.2 t in
      rw (m.1, test, m.3) refl

  pub info_later : (bytes : List ℕ) (pid : ℕ) (info rest : List ℕ) → Some (pid, info, rest) ≡ option_map shown_entry (entry_at bytes) → (pid == wanted) ≡ false
      → info_on wanted (things_of entry_at bytes) ≡ info_on wanted (things_of entry_at rest)
  info_later bytes pid info rest h t =
      let m = more_entries bytes pid info rest h in
      let test : (pid_in m.0.pid_field == wanted) ≡ false = rw m.2 t in
      rw (m.1, test) refl

  pub info_never : (bytes : List ℕ) → None ≡ option_map shown_entry (entry_at bytes) → info_on wanted (things_of entry_at bytes) ≡ None
  info_never bytes h = rw (things_ended entry_at entry_shortens bytes (none shown_entry entry_at bytes h)) refl
