-- What a store of bytes holds.
use Rattle.std.specs.Prelude.{ℕ, ◌-◌, List, take, drop}
use Rattle.psi_section.specs.declared.store.Store.{Store}

-- the bytes not given yet
abbrev pub content : Store → List ℕ
content s = take (s.end - s.at) (drop s.at s.bytes)
