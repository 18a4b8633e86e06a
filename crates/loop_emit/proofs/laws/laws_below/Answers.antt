use Rattle.loop_emit.proofs.laws.laws_below.Goals as goal

pub returns : goal.returns
returns c = record {
  limits = c.typed_programs_keep_limits.ensures.limits;
  kinds = c.typed_programs_keep_limits.ensures.kinds;
  scopes = c.typed_streams_read_their_scopes.ensures.programs;
  widths = c.typed_streams_read_their_scopes.ensures.widths;
  wider = c.expressions_read_bound_words_alone.ensures.wider;
  undivided_value = c.undivided_expressions_have_values.ensures.expressions;
  ints = c.values_are_words.ensures.ints;
  items = c.values_are_words.ensures.items;
  few_items = c.values_are_words.ensures.few_items;
  far_transitive = c.far_is_an_order.ensures.transitive;
  far_finished = c.stages_keep_far_rows.ensures.finishes;
  far_run = c.runs_grow.ensures;
  temporaries = c.temporaries_are_few.ensures;
  values = c.expressions_are_lowered.ensures.values;
  conditions = c.expressions_are_lowered.ensures.conditions;
  target = c.scopes_hold_expressions.ensures.target;
  in_place = c.scopes_hold_expressions.ensures.in_place;
  names = c.scopes_hold_expressions.ensures.names;
  bare_tests = c.expressions_name_their_leaves.ensures.bare_tests;
  turns = c.turns_are_lowered.ensures;
  turn_names = c.turns_name_declared_variables.ensures.names;
  turn_constants = c.turns_name_declared_variables.ensures.constants;
  turn_few = c.turns_name_declared_variables.ensures.few;
  turn_grows = c.turns_name_declared_variables.ensures.grows;
  prints = c.rows_are_taken.ensures.prints;
  print_stops = c.rows_are_taken.ensures.print_stops;
  folds = c.rows_are_taken.ensures.folds;
  fold_stops = c.rows_are_taken.ensures.fold_stops;
  print_few = c.rows_are_taken.ensures.print_few;
  fold_few = c.rows_are_taken.ensures.fold_few;
  print_names = c.rows_are_taken.ensures.print_names;
  fold_names = c.rows_are_taken.ensures.fold_names;
  print_constants = c.rows_are_taken.ensures.print_constants;
  fold_constants = c.rows_are_taken.ensures.fold_constants;
  never_stuck = c.no_observation_is_stuck.ensures;
  dead_code = c.dead_code_does_nothing.ensures.meaning;
  no_larger = c.live_programs_are_no_larger.ensures.sizes;
}
