-- Trees that are equal except for their spans.
use Rattle.std.specs.Prelude.{Bool, true, false, ◌&&◌}
use Rattle.std.specs.Ordering.{int_eq}
use Rattle.std.specs.Bool.{beq}
use Rattle.std.specs.Str.{bytes_eq}
use Rattle.toml_span_tree.specs.Float.{float_text}
use Rattle.toml_span_tree.specs.Node.{Scalar, text, integer, float, boolean, datetime, Node, node, Inner}
use Rattle.toml_span_tree.specs.Node.{taken, scalar, array, table, Items, no_items, item, Members, no_members, member}

-- whether two scalars are of the same kind and equal; floats and dates are compared by their texts
abbrev pub same_scalar : Scalar → Scalar → Bool
same_scalar (text s) (text t) = bytes_eq s t
same_scalar (integer y) (integer z) = int_eq y z
same_scalar (float x) (float y) = bytes_eq (float_text x) (float_text y)
same_scalar (boolean a) (boolean b) = beq a b
same_scalar (datetime d) (datetime e) = bytes_eq d e
same_scalar _ _ = false

abbrev pub same_scalars : Inner → Inner → Bool
same_scalars (scalar s) (scalar t) = same_scalar s t
same_scalars _ _ = false

-- whether two trees have the same names and values in the same order; spans are ignored
abbrev mutual
  pub same : Node → Node → Bool
  same (node i span) (node j other) = same_inner i j

  pub same_inner : Inner → Inner → Bool
  same_inner taken taken = true
  same_inner (scalar s) (scalar t) = same_scalar s t
  same_inner (array ns) (array ks) = same_items ns ks
  same_inner (table ms) (table ks) = same_members ms ks
  same_inner _ _ = false

  pub same_items : Items → Items → Bool
  same_items no_items no_items = true
  same_items (item n ns) (item k ks) = same n k && same_items ns ks
  same_items _ _ = false

  pub same_members : Members → Members → Bool
  same_members no_members no_members = true
  same_members (member name span n ms) (member other place k ks) =
      bytes_eq name other && (same n k && same_members ms ks)
  same_members _ _ = false
