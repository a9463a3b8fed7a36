use Rattle.std.specs.Prelude.{◌≡◌, ℕ, ◌<◌, length, slice_index}
use Rattle.loss_model.specs.Problem.{number_at}
use Rattle.whole_tableau.specs.Kept.{place}
use Rattle.rank_tableau.specs.Ends.{weighed_row}
use Rattle.rank_tableau.proofs.ends.basic_values.Given as goal

abbrev pub invariant-loop-k : goal.invariant-loop-k
invariant-loop-k g l = record {
  size : length l.basic ≡ l.k;
  each : (i : ℕ) → i < l.k → number_at l.basic i ≡ weighed_row g.F.Exact.value (place g.F.Exact.value l.tableau) l.course l.weight (slice_index l.sorted i);
}
