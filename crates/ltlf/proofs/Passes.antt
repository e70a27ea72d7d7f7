-- A pass over the nodes from the last to the first: what the row holds while it goes on.
use Rattle.std.proofs.Common.{◌≡◌, ℕ, zero, suc, ◌+◌, ◌-◌, ◌<◌, ◌≤◌, min, Bool, true, false, ◌&&◌, ltb, List, [], ◌∷◌, ◌++◌, length, get_or, take, drop, set, replicate, sym, refl, ap, ◌∙◌, arith, length-append, drop-cons}
use Rattle.std.proofs.lemmas.List.{length-replicate, length-set, length-take, replicate-append-replicate, get_or-append_right, get_or-take, set_at, take-take, drop_all}
use Rattle.std.proofs.lemmas.Bool.{ltb-true}
use Rattle.std.proofs.Math.Seq.{take-append_seam, get_or-append_seam}
use Rattle.ltlf.specs.declared.node.Node.{Node}
use Rattle.ltlf.specs.Rows.{Rule, operand_bit, bit_behind, bits_from, row_by}

-- false bits at the end make no difference
none_there : (m k : ℕ) → get_or (replicate m false) k false ≡ false
none_there zero k = refl
none_there (suc m) zero = refl
none_there (suc m) (suc k) = none_there m k

pub get_or_padded : (bits : List Bool) (m k : ℕ) → get_or (bits ++ replicate m false) k false ≡ get_or bits k false
get_or_padded [] m k = none_there m k
get_or_padded (b ∷ bits) m zero = refl
get_or_padded (b ∷ bits) m (suc k) = get_or_padded bits m k

pub length_bits : (rule : Rule) (n : ℕ) (xs : List Node) → length (bits_from rule n xs) ≡ length xs
length_bits rule n [] = refl
length_bits rule n (x ∷ xs) = ap suc (length_bits rule (suc n) xs)

replicate_end : (n : ℕ) (tail : List Bool) → replicate (suc n) false ++ tail ≡ replicate n false ++ (false ∷ tail)
replicate_end zero tail = refl
replicate_end (suc n) tail = ap (λ l. false ∷ l) (replicate_end n tail)

-- the row when the nodes from n on are done
abbrev pub partly : Rule → List Node → ℕ → List Bool
partly rule xs n = replicate n false ++ (bits_from rule n (drop n xs) ++ replicate (64 - length xs) false)

operand_behind : (n m i : ℕ) (bits : List Bool) → operand_bit n (replicate (suc n) false ++ (bits ++ replicate m false)) i ≡ bit_behind n bits i
operand_behind n m i bits = go (ltb n i) refl
  where
    go : (k : Bool) → ltb n i ≡ k → (k && get_or (replicate (suc n) false ++ (bits ++ replicate m false)) i false) ≡ (k && get_or bits (i - suc n) false)
    go true e =
        get_or-append_right (replicate (suc n) false) (bits ++ replicate m false) (suc n) i false (length-replicate (suc n) false) (omega (arith, ltb-true n i e))
        ∙ get_or_padded bits m (i - suc n)
    go false e = refl

module _ (rule : Rule) (nodes : List Node) where
  -- what a pass keeps, with n nodes still to do
  abbrev pub Working : List Bool → ℕ → Type 0
  Working here n = (length here ≡ 64) × (here ≡ partly rule (take 64 nodes) n)

  pub begins : (n : ℕ) → n ≡ min 64 (length nodes) → Working (replicate 64 false) n
  begins n e =
      let xs = take 64 nodes in
      let all : length xs ≤ n = omega (arith, length-take 64 nodes, e) in
      let same : length xs ≡ n = length-take 64 nodes ∙ sym e in
      let sum : n + (64 - n) ≡ 64 = omega (arith, e) in (
        length-replicate 64 false,
        sym (ap (λ l. replicate n false ++ (bits_from rule n l ++ replicate (64 - length xs) false)) (drop_all n xs all)
            ∙ ap (λ k. replicate n false ++ replicate (64 - k) false) same
            ∙ replicate-append-replicate n (64 - n) false
            ∙ ap (λ k. replicate k false) sum),
      )

  turn_at : (n : ℕ) (here : List Bool) (v : Bool) (d : Node) → n < length (take 64 nodes) → here ≡ partly rule (take 64 nodes) (suc n) → v ≡ rule n (operand_bit n here) (get_or (take 64 nodes) n d) → set here n v ≡ partly rule (take 64 nodes) n
  turn_at n here v d h e w =
      let xs = take 64 nodes in
      let m = 64 - length xs in
      let bits = bits_from rule (suc n) (drop (suc n) xs) in
      let tail = bits ++ replicate m false in
      let at : operand_bit n here ≡ bit_behind n bits = ap (operand_bit n) e ∙ (λ k i. operand_behind n m i bits k) in
      ap (λ l. set l n v) (e ∙ replicate_end n tail)
      ∙ set_at (replicate n false) false tail v n (length-replicate n false)
      ∙ ap (λ b. replicate n false ++ (b ∷ tail)) (w ∙ ap (λ f. rule n f (get_or xs n d)) at)
      ∙ sym (ap (λ l. replicate n false ++ (bits_from rule n l ++ replicate m false)) (drop-cons xs n d h))

  pub turn : (n : ℕ) (here : List Bool) (v : Bool) (d : Node) → n < min 64 (length nodes) → Working here (suc n) → v ≡ rule n (operand_bit n here) (get_or nodes n d) → Working (set here n v) n
  turn n here v d l w e =
      let whole = turn_at n here v d (omega (arith, length-take 64 nodes)) w.1 (e ∙ ap (rule n (operand_bit n here)) (sym (get_or-take 64 nodes n d (omega arith)))) in
      (simp length-set w.0, whole)

  pub ends : (n : ℕ) (here : List Bool) → n ≤ 0 → Working here n → here ≡ row_by rule nodes
  unfolding row_by
  ends n here l w =
      let none : n ≡ 0 = omega arith in
      w.1 ∙ ap (partly rule (take 64 nodes)) none ∙ ap (λ k. bits_from rule 0 (take 64 nodes) ++ replicate (64 - k) false) (sym (length_bits rule 0 (take 64 nodes)))

-- the nodes that are left are the first ones, and one fewer are too
pub one_fewer : (nodes left fewer : List Node) (x : Node) → left ≡ fewer ++ (x ∷ []) → left ≡ take (length left) nodes → (fewer ≡ take (length fewer) nodes) × (length left ≡ suc (length fewer)) × ((d : Node) → x ≡ get_or nodes (length fewer) d)
one_fewer nodes left fewer x e t =
    let n = length fewer in
    let more : length left ≡ suc n = omega (arith, ap length e, length-append fewer (x ∷ [])) in (
      sym (take-append_seam fewer (x ∷ [])) ∙ ap (take n) (sym e ∙ t) ∙ take-take n (length left) nodes (omega (arith, more)),
      more,
      λ d. sym (get_or-append_seam fewer x [] d) ∙ ap (λ l. get_or l n d) (sym e ∙ t) ∙ get_or-take (length left) nodes n d (omega (arith, more)),
    )
