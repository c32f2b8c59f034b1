-- What each read put stands behind what was read before it, so that all of it is what the input has lost.
use Rattle.std.proofs.Common.{◌≡◌, ◌+◌, ◌≤◌, length, take, drop, rules, sym, ap, subst, ◌∙◌, to_z, of_z, to_z-of_z}
use Rattle.std.proofs.Math.Seq.{take-add}
use Rattle.std.proofs.KnownBytes.{Consumes-trans}
use Rattle.std.specs.Io.KnownBytes.{Consumes}
use Rattle.std.specs.Int.{w64}
use Rattle.program_ends.specs.Ends.{more_bytes}
use Rattle.program.proofs.read_all.Goals as goal

pub loop-done-preserved : goal.loop-done-preserved
loop-done-preserved g c =
    let d = c.loop-done.done in
    let k = c.more-k.result in
    let r = c.read_on-answer in
    let z = r.new.buf in
    let as_held : to_z w64 (of_z w64 r.result) ≡ r.result = to_z-of_z {w = w64} {z = r.result} (record { sfits = r.type_inv }) in
    let put : k ≡ more_bytes r.result = c.more-k.ensures ∙ ap more_bytes as_held in
    let within : d + k ≤ length z = search rules in
    let before = subst (Consumes (g.R.Read.remaining c.args.input.now) (g.R.Read.remaining c.loop-done.input)) (sym r.ensures.buf_unchanged) c.loop-done.invariant.1 in
    let then = subst (λ n. Consumes (g.R.Read.remaining c.loop-done.input) (g.R.Read.remaining r.new.input) (take n (drop d z))) (sym put) r.ensures.bytes in (
      within,
      subst (Consumes (g.R.Read.remaining c.args.input.now) (g.R.Read.remaining r.new.input)) (sym (take-add d k z)) (Consumes-trans _ _ _ _ _ before then),
    )
