use Rattle.std.proofs.Common.{rules, sym, subst, ◌≡◌, ◌∙◌}
use Rattle.std.proofs.lemmas.List.Filters.{dedup_is}
use Rattle.design_matrix.specs.Levels.{levels_of, number_order}
use Rattle.tv_penalty.specs.Views.{AreAscending}
use Rattle.tv_penalty.proofs.Distinct.{ascending_levels, sorted_levels, sorted_numbers}
use Rattle.tv_penalty.proofs.Values.{same_parts}
use Rattle.tv_penalty.proofs.knot.distinct.Goals as goal

pub returns : goal.returns
returns c =
    let is : c.dedup.new.self.items ≡ levels_of number_order c.args.numbers.items =
    dedup_is same_parts c.sort_unstable_by.new.self.items c.dedup.new.self.items c.dedup.ensures.filtered
    ∙ sorted_levels c.distinct_levels.ensures.numbers c.args.numbers.items c.sort_unstable_by.new.self.items c.sort_unstable_by.ensures.permutation
    (sorted_numbers c.sort_unstable_by.new.self.items c.sort_unstable_by.ensures.sorted (λ a r f k. search rules))
    in
    record { levels = is; ascending = subst AreAscending (sym is) (ascending_levels c.distinct_levels.ensures.numbers c.args.numbers.items) }
