pub use Rattle.lg_ports.specs.Given
pub use Rattle.lg_ports.specs.Judged
pub use Rattle.lg_ports.specs.Ports
pub use Rattle.lg_ports.specs.Bounds
pub use Rattle.lg_ports.specs.Delays
pub use Rattle.lg_shapes.specs.Shapes
pub use Rattle.lg_shapes.specs.Reads
