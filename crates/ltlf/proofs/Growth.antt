-- A formula is read: its sign, and then its operands.
use Rattle.std.proofs.Common.{◌≡◌, ℕ, suc, ◌+◌, ◌-◌, ◌≤◌, List, [], ◌∷◌, ◌++◌, length, drop, set, Ok, Err, Result, sym, ap, ◌∙◌, subst, inl, inr, ⊎_elim, append_assoc, arith, length-append, length-set}
use lib.Seq.{set-append_seam}
use Rattle.wire.specs.declared.refusal.Refusal.{Refusal}
use Rattle.ltlf.specs.declared.node.Node.{Node}
use Rattle.ltlf.specs.declared.reader.Progress.{Progress}
use Rattle.ltlf.specs.declared.reader.Operands.{Operands}
use Rattle.ltlf.specs.declared.reader.Operands.TheVariants as operands
use Rattle.ltlf.specs.Formula.{Formula, print, size}
use Rattle.ltlf.specs.Nodes.{flat}
use Rattle.ltlf.specs.Prefix.{strip, judge, owing, operands_of}
use Rattle.ltlf.specs.Steps.{with_second, Taken, Grown, Grows, seen, next_verdict}
use Rattle.ltlf.proofs.Forms.{spelt, length_flat, lone, before, before_both}

-- one more node
length_push : (xs : List Node) (x : Node) → length (xs ++ x ∷ []) ≡ suc (length xs)
length_push xs x = length-append xs (x ∷ []) ∙ omega arith

-- what was read of the same text for the same actions
pub carried : (k k' : ℕ) (bs bs' : List ℕ) (l : ℕ) (p q : Progress) (xs xs' ys : List Node) (a : Result (Unit {0}) Refusal) → k' ≡ k → bs' ≡ bs → xs' ≡ xs → Grows k' bs' l p q xs' ys a → Grows k bs l p q xs ys a
carried k k' bs bs' l p q xs xs' ys a e f h g =
    subst (λ j. Grows j bs l p q xs ys a) e (subst (λ t. Grows k' t l p q xs ys a) f (subst (λ ns. Grows k' bs' l p q ns ys a) h g))

module _ (k : ℕ) (bs : List ℕ) (l : ℕ) (p q : Progress) (xs : List Node) (x : Node) (tk : Taken k bs l (length xs) p q x) (deep : l ≤ 16) where
  -- the verdict behind the sign
  onward : (o : Operands) → operands_of x ≡ o → (ds : List ℕ) → next_verdict k bs l (length xs) p ds ≡ judge k (seen q (suc (length xs)) (owing o (17 - l) ds)) q.at (drop q.at bs)
  onward o e ds = tk.verdict ds ∙ ap (λ a. judge k (seen q (suc (length xs)) (owing a (17 - l) ds)) q.at (drop q.at bs)) e

  -- an operand is one level deeper
  deeper : suc (17 - l) ≡ 17 - (l - 1)
  deeper = omega (arith, tk.some_level)

  pub grown_lone : operands_of x ≡ operands.Zero → (f : Formula) × Grown k bs l p q xs (xs ++ x ∷ []) f
  grown_lone o =
      let w = lone k tk.byte (length xs) x o (spelt tk.byte (suc (length xs)) x tk.is) in
      let h = w.1 in (
        w.0,
        record {
          within = tk.within;
          few_temporals = tk.few_temporals;
          counted = tk.counted ∙ ap (λ m. p.temporals + m) (sym h.counted);
          nodes = ap (λ ys. xs ++ ys) (sym h.nodes);
          letters = h.letters tk.letter;
          few_levels = omega (arith, h.deep, tk.some_level);
          text = tk.text ∙ ap (λ t. t ++ strip (drop q.at bs)) (sym h.text);
          verdict = λ ds. onward operands.Zero o ds ∙ ap (λ m. judge k (seen q m ds) q.at (drop q.at bs)) (sym (length_push xs x));
        },
      )

  -- the verdict behind the sign is the next formula's
  into : (r : Progress) (rest : List ℕ) → judge k (seen q (suc (length xs)) (suc (17 - l) ∷ rest)) q.at (drop q.at bs) ≡ next_verdict k bs (l - 1) (length (xs ++ x ∷ [])) q rest
  into r rest = λ i. judge k (seen q (sym (length_push xs x) i) (deeper i ∷ rest)) q.at (drop q.at bs)

  module _ (r : Progress) (ys : List Node) where
    pub grown_before : operands_of x ≡ operands.One → (f : Formula) → Grown k bs (l - 1) q r (xs ++ x ∷ []) ys f → (h : Formula) × Grown k bs l p r xs ys h
    grown_before o f g =
        let w = before k tk.byte (length xs) x o (spelt tk.byte (suc (length xs)) x tk.is) f in
        let h = w.1 in (
          w.0,
          record {
            within = g.within;
            few_temporals = g.few_temporals;
            counted = omega (arith, g.counted, tk.counted, h.counted);
            nodes = g.nodes ∙ append_assoc xs (x ∷ []) (flat (length (xs ++ x ∷ [])) f) ∙ ap (λ m. xs ++ x ∷ flat m f) (length_push xs x) ∙ ap (λ ns. xs ++ ns) (sym h.nodes);
            letters = h.letters g.letters;
            few_levels = omega (arith, h.deep, g.few_levels, tk.some_level);
            text = tk.text ∙ ap (λ t. tk.byte ∷ t) g.text ∙ ap (λ t. t ++ strip (drop r.at bs)) (sym h.text);
            verdict = λ ds. onward operands.One o ds ∙ into r ds ∙ g.verdict ds;
          },
        )

    -- the reading ends with the only operand
    pub grows_before : operands_of x ≡ operands.One → (a : Result (Unit {0}) Refusal) → Grows k bs (l - 1) q r (xs ++ x ∷ []) ys a → Grows k bs l p r xs ys a
    grows_before o (Ok u) g = grown_before o g.0 g.1
    grows_before o (Err e) g = ⊎_elim (λ h. inl (λ ds. onward operands.One o ds ∙ into r ds ∙ h ds)) inr g

    -- the first of two operands is refused
    pub refused_first : operands_of x ≡ operands.Two → (e : Refusal) → Grows k bs (l - 1) q r (xs ++ x ∷ []) ys (Err e) → Grows k bs l p r xs ys (Err e)
    refused_first o e g = ⊎_elim (λ h. inl (λ ds. onward operands.Two o ds ∙ into r (suc (17 - l) ∷ ds) ∙ h (suc (17 - l) ∷ ds))) inr g

    module _ (o : operands_of x ≡ operands.Two) (f : Formula) (g : Grown k bs (l - 1) q r (xs ++ x ∷ []) ys f) where
      -- the nodes so far: the sign, and those of the first operand
      so_far : ys ≡ xs ++ x ∷ flat (suc (length xs)) f
      so_far = g.nodes ∙ append_assoc xs (x ∷ []) (flat (length (xs ++ x ∷ [])) f) ∙ ap (λ m. xs ++ x ∷ flat m f) (length_push xs x)

      pub how_many : length ys ≡ suc (length xs) + size f
      how_many = ap length so_far ∙ length-append xs (x ∷ flat (suc (length xs)) f) ∙ omega (arith, length_flat (suc (length xs)) f)

      -- the sign's node with the number of its second operand
      module _ (zs : List Node) (z : zs ≡ set ys (length xs) (with_second x (length ys))) where
        as_many : length zs ≡ length ys
        as_many = ap length z ∙ length-set ys (length xs) (with_second x (length ys))

        mended : zs ≡ xs ++ with_second x (suc (length xs) + size f) ∷ flat (suc (length xs)) f
        mended =
            z ∙ ap (λ ns. set ns (length xs) (with_second x (length ys))) so_far
            ∙ set-append_seam xs x (flat (suc (length xs)) f) (with_second x (length ys))
            ∙ ap (λ m. xs ++ with_second x m ∷ flat (suc (length xs)) f) how_many

        -- the verdict behind the first operand is the second's
        across : (ds : List ℕ) → next_verdict k bs l (length xs) p ds ≡ next_verdict k bs (l - 1) (length zs) r ds
        across ds =
            onward operands.Two o ds ∙ into r (suc (17 - l) ∷ ds) ∙ g.verdict (suc (17 - l) ∷ ds)
            ∙ (λ i. judge k (seen r (sym as_many i) (deeper i ∷ ds)) r.at (drop r.at bs))

        module _ (t : Progress) (ws : List Node) where
          grown_both : (g' : Formula) → Grown k bs (l - 1) r t zs ws g' → (h : Formula) × Grown k bs l p t xs ws h
          grown_both f' g' =
              let w = before_both k tk.byte (length xs) x o (spelt tk.byte (suc (length xs)) x tk.is) f f' in
              let h = w.1 in
              let many : length zs ≡ suc (length xs) + size f = as_many ∙ how_many in (
                w.0,
                record {
                  within = g'.within;
                  few_temporals = g'.few_temporals;
                  counted = omega (arith, g'.counted, g.counted, tk.counted, h.counted);
                  nodes =
                      g'.nodes ∙ (λ i. mended i ++ flat (many i) f')
                      ∙ append_assoc xs (with_second x (suc (length xs) + size f) ∷ flat (suc (length xs)) f) (flat (suc (length xs) + size f) f')
                      ∙ ap (λ ns. xs ++ ns) (sym h.nodes);
                  letters = h.letters g.letters g'.letters;
                  few_levels = omega (arith, h.deep, g.few_levels, g'.few_levels, tk.some_level);
                  text =
                      tk.text ∙ ap (λ a. tk.byte ∷ a) (g.text ∙ ap (λ a. print f ++ a) g'.text ∙ sym (append_assoc (print f) (print f') (strip (drop t.at bs))))
                      ∙ ap (λ a. a ++ strip (drop t.at bs)) (sym h.text);
                  verdict = λ ds. across ds ∙ g'.verdict ds;
                },
              )

          -- the reading ends with the second of two operands
          pub grows_both : (a : Result (Unit {0}) Refusal) → Grows k bs (l - 1) r t zs ws a → Grows k bs l p t xs ws a
          grows_both (Ok u) g' = grown_both g'.0 g'.1
          grows_both (Err e) g' = ⊎_elim (λ h. inl (λ ds. across ds ∙ h ds)) inr g'
