use Rattle.std.proofs.Common.{rules, ◌≡◌, Bool, Some, sym, subst}
use Rattle.std.specs.Option.{option_eq}
use Rattle.csl_tree.specs.declared.elem.Elem as elem
use Rattle.csl_tree.specs.contracts.elem.ElemMetaPartialEq.TheImpl.{eq-value as eq_meta}
use Rattle.csl_tree.specs.Tokens.{meta_of}
use Rattle.csl_tree.specs.Search.{preorder, IsFirst, elem_meta}
use Rattle.csl_tree.proofs.MetaEqual.{optional_decides}
use Rattle.csl_tree.proofs.Searches.{is_first}
use Rattle.csl_tree.proofs.elem.ElemChildren.find_meta.Goals as goal

pub returns : goal.returns
returns c =
    let meta = c.args.meta.now in
    let p : elem.Elem → Bool = λ e. option_eq eq_meta.it (elem.out-Elem e).meta (Some meta) in
    let P : elem.Elem → Type 0 = λ e. elem_meta e ≡ Some (meta_of meta) in
    let xs = preorder c.args.self.now in
    let found = c.find_elem_by.ensures p (λ e r post. search rules) in
    subst (IsFirst P xs) (sym found) (is_first p P (λ e. optional_decides (elem.out-Elem e).meta meta) xs)
