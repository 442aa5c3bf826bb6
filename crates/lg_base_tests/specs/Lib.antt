pub mod TimingSamples
