-- The scope and the width of the core of a stream, and its Zips.
use Rattle.std.proofs.Common.{◌≡◌, ℕ, ◌+◌, length, refl, arith}
use Rattle.list_denotation.specs.Terms as stream
use Rattle.list_denotation.specs.Terms.{Pipe}
use Rattle.stateful_core.specs.CoreShapes.{core_scope, core_width, has_zip}
use Rattle.stateful_core.specs.StreamCores.{stream_width, core_at, stream_has_zip}
use Rattle.stateful_core.proofs.VariableRows.{length_variables}

pub scope_at : (p : Pipe) (e : ℕ) → core_scope (core_at e p) ≡ e
scope_at (stream.Array k) e = refl
scope_at (stream.Range a b) e = refl
scope_at (stream.Unfold seed guard item next) e = refl
scope_at (stream.Map of body) e = refl
scope_at (stream.Filter of body) e = refl
scope_at (stream.Take of count) e = refl
scope_at (stream.Drop of count) e = refl
scope_at (stream.TakeWhile of body) e = refl
scope_at (stream.Scan of seed next) e = refl
scope_at (stream.FlatMap of inner) e = scope_at of e
scope_at (stream.Zip left right) e = scope_at left e

pub width_at : (p : Pipe) (e : ℕ) → core_width (core_at e p) ≡ stream_width p
width_at (stream.Array k) e = refl
width_at (stream.Range a b) e = refl
width_at (stream.Unfold seed guard item next) e = length_variables (e + length seed) (length item)
width_at (stream.Map of body) e = length_variables (e + stream_width of) (length body)
width_at (stream.Filter of body) e = length_variables e (stream_width of)
width_at (stream.Take of count) e = length_variables (e + 1) (stream_width of)
width_at (stream.Drop of count) e = length_variables (e + 1) (stream_width of)
width_at (stream.TakeWhile of body) e = length_variables e (stream_width of)
width_at (stream.Scan of seed next) e = length_variables e (length seed)
width_at (stream.FlatMap of inner) e = width_at inner (e + stream_width of)
width_at (stream.Zip left right) e = omega (arith, width_at left e, width_at right e)

pub zips_at : (p : Pipe) (e : ℕ) → has_zip (core_at e p) ≡ stream_has_zip p
zips_at (stream.Array k) e = refl
zips_at (stream.Range a b) e = refl
zips_at (stream.Unfold seed guard item next) e = refl
zips_at (stream.Map of body) e = zips_at of e
zips_at (stream.Filter of body) e = zips_at of e
zips_at (stream.Take of count) e = zips_at of e
zips_at (stream.Drop of count) e = zips_at of e
zips_at (stream.TakeWhile of body) e = zips_at of e
zips_at (stream.Scan of seed next) e = zips_at of e
zips_at (stream.FlatMap of inner) e = rw (zips_at of e, zips_at inner (e + stream_width of)) refl
zips_at (stream.Zip left right) e = refl
