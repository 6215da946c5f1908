use Rattle.std.proofs.Common.{◌≡◌, ℕ, ◌-◌, List, ◌++◌, length, take, drop, sym, ap, ◌∙◌, subst, append_assoc, take-append-drop, rules}
use Rattle.std.proofs.lemmas.List.{take_rest}
use Rattle.std.specs.Io.KnownBytes.{Appends}
use Rattle.std.proofs.KnownBytes.{Appends-trans, Appends-kept}
use Rattle.automations.proofs.connection.send.Goals as goal
use Rattle.automations.proofs.connection.send.Goals.{in-Ok, in-Err+else-ne}

moves_front : (all done rest : List ℕ) (n : ℕ) → all ≡ done ++ rest → all ≡ (done ++ take n rest) ++ take (length rest - n) (drop n rest)
moves_front all done rest n e =
    e ∙ ap (λ l. done ++ l) (sym (take-append-drop n rest)) ∙ sym (append_assoc done (take n rest) (drop n rest)) ∙ ap (λ l. (done ++ take n rest) ++ l) (sym (take_rest rest n))

pub loop-turn-preserved : goal.loop-turn-preserved
loop-turn-preserved g c =
    let (done, split, appended) = c.loop-turn.invariant.sent in
    let rest = c.loop-turn.rest.now in
    let contents = g.W.Write.contents in
    elim c.match-write.branch [
      | in-Ok w ↦
          let n = w.in-Ok.count in
          record {
            sent = subst (λ r. (x : List ℕ) × (c.args.bytes.now ≡ x ++ r.now) × Appends (contents c.args.stream.now.writer) (contents c.write.new.self.writer) x)
                (sym w.rest-is)
                (done ++ take n rest, moves_front _ done rest n split, Appends-trans _ _ _ _ _ appended w.in-Ok.ensures.bytes);
            writes = search rules;
            failed = search rules;
          }
      | in-Err+else-ne w ↦
          record {
            sent = subst (λ r. (x : List ℕ) × (c.args.bytes.now ≡ x ++ r.now) × Appends (contents c.args.stream.now.writer) (contents c.write.new.self.writer) x)
                (sym w.rest-is)
                (done, split, Appends-kept _ _ _ _ appended w.in-Err.ensures.bytes);
            writes = search rules;
            failed = search rules;
          }
    ]
