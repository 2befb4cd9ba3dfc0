-- The names that most proofs of this crate use.
pub use Rattle.ht_app.specs.Acts.{Act, Did, is_port, make, makes, put}
pub use Rattle.ht_app.specs.Changed.{ChangedOnly, IsCreatedOnly, IsOtherFile, Ports, ports_at}
pub use Rattle.ht_app.specs.Generating.{StandsAt, WritesAll, WritesOn}
pub use Rattle.ht_app.specs.Outputs.{MakesOutput, ending, file_acts, response_acts, step_acts, sync_acts}
pub use Rattle.ht_app.specs.Run.{HasCause}
pub use Rattle.ht_app.specs.Steps.{Does, EndsJob, IsPrepared, PermitsAll, Tries, reading, writing}
pub use Rattle.ht_app.specs.declared.generate.sizes.Sizes.{Sizes}
pub use Rattle.ht_asked.specs.Asked.{Asked}
pub use Rattle.ht_asked.specs.Commands.{words_of}
pub use Rattle.ht_bench.proofs.OneLaws.{one_circuit}
pub use Rattle.ht_bench.specs.Text.{IsNetlistOf, max_netlist_bytes}
pub use Rattle.ht_faults.specs.Classes.{AreClasses}
pub use Rattle.ht_demo.specs.Demo.{demo_netlist}
pub use Rattle.ht_serial.specs.ObservationView.{ObservationView}
pub use Rattle.ht_engine.specs.EngineStands.{EngineStandsFor, EngineView, HasSameWork, Makes, remaining}
pub use Rattle.ht_engine.specs.Steps.{AreFinished, AreSteps}
pub use Rattle.ht_engine.specs.declared.settings.Settings.{Settings}
pub use Rattle.ht_engine.specs.declared.step.Step.{Step}
pub use Rattle.ht_engine.specs.declared.step.Step.TheVariants.{Entry, Finished, Vectors}
pub use Rattle.ht_entries.specs.ProofLines.{line_text}
pub use Rattle.ht_entries.specs.declared.numbered.Numbered.{Numbered}
pub use Rattle.ht_files.specs.Generated.{IsGenerated}
pub use Rattle.ht_files.specs.StepTexts.{proofs_of, proofs_so_far, tests_of}
pub use Rattle.ht_inputs.specs.Errors.{exit_status}
pub use Rattle.ht_inputs.specs.Inputs.{AcceptsInputs, HasNetlist, JobBasis, SaysBasis}
pub use Rattle.ht_inputs.specs.Jobs.{input_name, order_of}
pub use Rattle.ht_inputs.specs.Judging.{ReportIsRead, check_basis}
pub use Rattle.ht_inputs.specs.Reading.{EndsReading, HasReadTo}
pub use Rattle.ht_inputs.specs.declared.run_error.RunError.{RunError}
pub use Rattle.ht_inputs.specs.declared.run_error.RunError.TheVariants.{Usage, WriteFault}
pub use Rattle.ht_net.specs.Frames.Rows.{Rows}
pub use Rattle.ht_ports.proofs.CallLaws.{after_trans}
pub use Rattle.ht_ports.specs.Desk.{Created, DeskView, IsFilePort, IsOtherName, NotCreated, OutCall, Writes}
pub use Rattle.ht_ports.specs.LineRule.{max_text_bytes}
pub use Rattle.ht_ports.specs.declared.ports.InPort.{InPort}
pub use Rattle.ht_ports.specs.declared.ports.InPort.TheVariants.{Extra}
pub use Rattle.ht_ports.specs.declared.ports.OutPort.{OutPort}
pub use Rattle.ht_ports.specs.declared.ports.OutPort.TheVariants.{Err, Out}
pub use Rattle.ht_tern.specs.declared.tern.Tern.{Tern}
pub use Rattle.ht_texts.specs.Lines.{with_lf}
pub use Rattle.ht_texts.specs.declared.said.Said.{Said}
pub use Rattle.ht_valid.specs.ValidFiles.{Content}
pub use Rattle.ht_words.specs.Jobs.{asked_by}
pub use Rattle.ht_words.specs.declared.job.RunFiles.{RunFiles}
