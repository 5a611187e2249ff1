use Rattle.std.proofs.Common.{◌≡◌, ℕ, sym, ap, ◌∙◌, below_more}
use Rattle.power.specs.Magnets.{magnet_meaning, goal as goal', heat_line, moved_by}
use Rattle.power.specs.Meaning.{Meaning}
use Rattle.power.proofs.Moves.{run_more}
use Rattle.tour.proofs.heating.run_to_trip.Goals as goal

pub loop-n-preserved : goal.loop-n-preserved
loop-n-preserved c =
    let m : Meaning = magnet_meaning c.args.magnet.now in
    let e = c.loop-n.invariant.0 in (
      run_more m (magnet_meaning c.loop-n.magnet) _ c.loop-n.n _ e c.advance.ensures.after c.advance.ensures.step,
      below_more (λ (k : ℕ). heat_line (moved_by k (goal' m) m.readings.current) ≡ 0) c.loop-n.n c.loop-n.invariant.1 (sym (ap (λ (x : Meaning). x.readings.lines) e) ∙ sym c.live_lines.ensures.value ∙ c.if-live_lines-ne0.false),
    )
