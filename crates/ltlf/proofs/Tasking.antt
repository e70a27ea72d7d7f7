-- From the reading of a text to the task that it leaves.
use Rattle.std.proofs.Common.{◌≡◌, ℕ, ◌≤◌, true, cond, leb, List, length, Ok, Err, sym, refl, ap, ◌∙◌, arith}
use Rattle.std.proofs.lemmas.Bool.{leb-true, and_parts}
use Rattle.wire.specs.declared.refusal.Cause.TheVariants as cause
use Rattle.wire.specs.Refusals.{refused}
use Rattle.ltlf.specs.declared.node.Node.{Node}
use Rattle.ltlf.specs.Nodes.{formula_of, temporal_nodes}
use Rattle.ltlf.specs.Prefix.{judge, start, in_range, verdict, Read}
use Rattle.ltlf.specs.Steps.{Whole}
use Rattle.ltlf.proofs.Back.{formula_back}
use Rattle.ltlf.proofs.Forms.{length_flat, temporal_flat}

module _ (k : ℕ) (bs : List ℕ) (ys : List Node) (within : true ≡ in_range k) where
  in_range_lem : verdict k bs ≡ judge k start 0 bs
  in_range_lem = ap (λ a. cond a (judge k start 0 bs) (Err (refused cause.ActionsOutOfRange 0))) (sym within)

  some : 1 ≤ k
  some = leb-true 1 k (and_parts (leb 1 k) (leb k 16) (sym within)).0

  pub few : k ≤ 16
  few = leb-true k 16 (and_parts (leb 1 k) (leb k 16) (sym within)).1

  pub well_read : (u : Unit {0}) → Whole k bs ys (Ok u) → Read k bs (Ok u) k ys
  well_read u w =
      let f = w.1.0 in
      let nodes = w.1.2 in (
        in_range_lem ∙ w.0,
        refl,
        (
          f,
          w.1.1,
          record {
            some_actions = some;
            few_actions = few;
            letters = w.1.4;
            few_signs = omega (arith, ap length nodes, length_flat 0 f, w.1.3);
            few_levels = w.1.5;
            few_temporals = w.1.6;
          },
          nodes,
          ap formula_of nodes ∙ formula_back f,
        ),
      )

pub mildly_read : (k : ℕ) (bs : List ℕ) (ys : List Node) (u : Unit {0}) → Whole k bs ys (Ok u) → temporal_nodes ys ≤ 7
mildly_read k bs ys u w = omega (arith, ap temporal_nodes w.1.2, temporal_flat 0 w.1.0, w.1.6)
