use Rattle.basis_model.proofs.LexicographicLaws.{less_at, first_less, less-trans}
use Rattle.basis_model.proofs.Ordered.{one_way}
use Rattle.basis_model.proofs.laws.lexicographic_order.Goals as goal

pub returns : goal.returns
returns c =
    record {
      first_difference = λ n u v. (λ h. first_less n u v h, λ (place, within, less). less_at n place u v within less);
      transitive = less-trans;
      one_way = one_way;
    }
